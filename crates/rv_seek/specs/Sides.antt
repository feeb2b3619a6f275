-- A map from left sides to places in a list of premises.
use Rattle.std.specs.Prelude.{◌≡◌, ◌≢◌, ℕ, ◌+◌, ◌<◌, ◌≤◌, ◌^◌, ℤ, ◌≤ℤ◌, List, Option, Some, IsSome, IfSome, IsSomeAnd, All, cond, length}
use Rattle.std.specs.{BTreeMap.BTreeMap, BTreeMap.get_by, Cmp.Lexicographic.slice_cmp, Ordering.int_cmp, Ordering.is_eq, Global.Vec}
use Rattle.rv_rows.specs.{declared.linear.Row.Row, Rows.coefficient, Rows.row_at, Rows.RowWithin, Forms.number}
use Rattle.rv_seek.specs.declared.sides.Closest.{Closest}

-- What the map has at a left side.
abbrev pub closest_at : BTreeMap (Vec ℤ) Closest → List ℤ → Option Closest
closest_at map cs = get_by (λ key. slice_cmp int_cmp cs key.items) map

-- The list has the row's coefficients, and zeros after them.
abbrev pub IsSide : Row → List ℤ → Type 0
IsSide r cs = (k : ℕ) → number k cs ≡ coefficient k r

-- Of the first n places with this left side, other than the given place, `other` is one with the least bound; there
-- is none where it is None.
pub record IsOther (rows : List Row) (n : ℕ) (cs : List ℤ) (place : ℕ) (other : Option ℕ) : Type 0 where
  pub found : IfSome other (λ p. (p < n) × (p ≢ place) × IsSide (row_at rows p) cs)
  pub least : (i : ℕ) → i < n → i ≢ place → IsSide (row_at rows i) cs → IsSomeAnd other (λ p. (row_at rows p).bound ≤ℤ (row_at rows i).bound)

-- Of the first n places with this left side, the first of these has the least bound, and the second the least
-- bound of the others.
pub record IsClosest (rows : List Row) (n : ℕ) (cs : List ℤ) (c : Closest) : Type 0 where
  pub below : c.first < n
  pub side : IsSide (row_at rows c.first) cs
  pub least : (i : ℕ) → i < n → IsSide (row_at rows i) cs → (row_at rows c.first).bound ≤ℤ (row_at rows i).bound
  pub others : IsOther rows n cs c.first c.second

-- The map has something at the left side of the place, over so many columns.
pub record IsKept (rows : List Row) (width : ℕ) (map : BTreeMap (Vec ℤ) Closest) (i : ℕ) : Type 0 where
  pub key : Vec ℤ
  pub columns : length key.items ≡ width
  pub side : IsSide (row_at rows i) key.items
  pub kept : IsSome (closest_at map key.items)

-- The map has the left side of each of the first n places, over so many columns, and at each of its left sides the
-- closest of these places.
pub record IsTable (rows : List Row) (width n : ℕ) (map : BTreeMap (Vec ℤ) Closest) : Type 0 where
  pub sound : (key : Vec ℤ) → IfSome (closest_at map key.items) (λ c. (length key.items ≡ width) × IsClosest rows n key.items c)
  pub complete : (i : ℕ) → i < n → IsKept rows width map i

-- At the left side of the place, over so many columns, the map has been given a value, and at the others it has what it had.
pub record IsPut (rows : List Row) (width n : ℕ) (key : Vec ℤ) (c : Closest) (old new : BTreeMap (Vec ℤ) Closest) : Type 0 where
  pub columns : length key.items ≡ width
  pub side : IsSide (row_at rows n) key.items
  pub changed : (q : Vec ℤ) → closest_at new q.items ≡ cond (is_eq (slice_cmp int_cmp key.items q.items)) (Some c) (closest_at old q.items)

-- Premises whose numbers are small enough for every question, with the table of all their places and of the two
-- past the end, which stand for no premise.
pub record IsPrepared (rows : List Row) (width : ℕ) (map : BTreeMap (Vec ℤ) Closest) : Type 0 where
  pub numbers : All (RowWithin (2 ^ 60)) rows
  pub few : length rows < 2 ^ 32
  pub widths : All (λ r. length r.coefficients ≤ width) rows
  pub table : IsTable rows width (length rows + 2) map

-- Premises whose numbers are small enough for every question, and the same premises made ready.
pub record IsReady (rows pairs : List Row) : Type 0 where
  pub numbers : All (RowWithin (2 ^ 60)) rows
  pub few : length rows < 2 ^ 32
  pub same : pairs ≡ rows
