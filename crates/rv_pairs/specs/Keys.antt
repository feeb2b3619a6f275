-- Keys of left sides, and an index of labelled rows by them.
use Rattle.std.specs.Prelude.{◌≡◌, ℕ, ◌<◌, ℤ, pos, ◌+ℤ◌, ◌*ℤ◌, List, [], ◌∷◌, length, Some, slice_get, slice_index_or}
use Rattle.std.specs.List.{Contains}
use Rattle.rv_pairs.specs.declared.labels.Labelled.{Labelled}

-- a list as one number, so that sums of lists go to sums; zeros at the end count for nothing
unfoldable pub fold : List ℤ → ℤ
fold [] = pos 0
fold (c ∷ cs) = c +ℤ (pos 1229 *ℤ fold cs)

-- The number leaves the rest when it is divided by 4096.
abbrev pub HasRest : ℤ → ℕ → Type 0
HasRest number rest = (times : ℤ) × (number ≡ (times *ℤ pos 4096) +ℤ pos rest)

-- The key of a list: what its fold leaves when it is divided by 4096.
pub record IsKey (numbers : List ℤ) (key : ℕ) : Type 0 where
  pub below : key < 4096
  pub rest : HasRest (fold numbers) key

-- the places with a key
abbrev pub places_at : List (List ℕ) → ℕ → List ℕ
places_at places key = slice_index_or places key []

-- The keys of the first rows, in order.
pub record AreKeys (labels : List Labelled) (n : ℕ) (keys : List ℕ) : Type 0 where
  pub size : length keys ≡ n
  pub each : (i key : ℕ) (l : Labelled) → slice_get keys i ≡ Some key → slice_get labels i ≡ Some l → IsKey l.row.coefficients key

-- There is a list for each key, and those of the first n rows are in that of the key of their left side.
pub record AreIndexed (labels : List Labelled) (n : ℕ) (places : List (List ℕ)) : Type 0 where
  pub size : length places ≡ 4096
  pub complete : (i key : ℕ) (l : Labelled) → i < n → slice_get labels i ≡ Some l → IsKey l.row.coefficients key → Contains (places_at places key) i

-- A list for each key.
abbrev pub AreEmpty : List (List ℕ) → Type 0
AreEmpty places = length places ≡ 4096
