-- The table of left sides: where a side has its numbers, and which sides stand in a list.
use Rattle.std.specs.Prelude.{◌≡◌, ◌⊎◌, ℕ, ◌<◌, ◌≤◌, ℤ, pos, negsuc, List, [], ◌∷◌, ◌++◌, length}
use Rattle.rv_rows.specs.{declared.linear.Row.Row, Rows.coefficient, Rows.row_at}
use Rattle.rv_proofs.specs.RowClaims.{IsUnit}

-- The row is over k columns and has one number at a first column and another at a second. Where both are one column it has the other.
pub record IsPattern (k first : ℕ) (one : ℤ) (second : ℕ) (other : ℤ) (r : Row) : Type 0 where
  pub size : length r.coefficients ≡ k
  pub bound : r.bound ≡ pos 0
  pub last : coefficient second r ≡ other
  pub start : (first ≡ second → ⊥) → coefficient first r ≡ one
  pub others : (n : ℕ) → (n ≡ first → ⊥) → (n ≡ second → ⊥) → coefficient n r ≡ pos 0

-- Such a row has been added.
pub record IsAdded (k first : ℕ) (one : ℤ) (second : ℕ) (other : ℤ) (old new : List Row) : Type 0 where
  pub side : Row
  pub pattern : IsPattern k first one second other side
  pub are : new ≡ old ++ side ∷ []

-- Two have, with 1 and with -1 at the second column.
pub record AreBothAdded (k first : ℕ) (one : ℤ) (second : ℕ) (old new : List Row) : Type 0 where
  pub middle : List Row
  pub up : IsAdded k first one second (pos 1) old middle
  pub down : IsAdded k first one second (negsuc 0) middle new

-- Where a left side over k columns has its numbers: 1 or -1 at one column, which is then both (the first number counts as 1), or at two.
abbrev pub IsPlace : ℕ → ℕ → ℤ → ℕ → ℤ → Type 0
IsPlace k first one second other = IsUnit other × (((first ≡ second) × (one ≡ pos 1)) ⊎ ((first < second) × (k ≤ 22) × IsUnit one))

-- the places whose second column is below y
abbrev pub column_places : ℕ → ℕ → ℕ → ℤ → ℕ → ℤ → Type 0
column_places k y first one second other = IsPlace k first one second other × (second < y)

-- and beside these, with y as the second column, that of y alone and the pairs whose first column is below x
abbrev pub pair_places : ℕ → ℕ → ℕ → ℕ → ℤ → ℕ → ℤ → Type 0
pair_places k y x first one second other = IsPlace k first one second other × ((second < y) ⊎ ((second ≡ y) × ((first ≡ y) ⊎ (first < x))))

-- The row is a left side that has its numbers at one of the places.
pub record IsListed (k : ℕ) (places : ℕ → ℤ → ℕ → ℤ → Type 0) (r : Row) : Type 0 where
  pub first : ℕ
  pub one : ℤ
  pub second : ℕ
  pub other : ℤ
  pub placed : places first one second other
  pub order : first ≤ second
  pub known : second < k
  pub pattern : IsPattern k first one second other r

-- The rows are the left sides at the places, each once.
pub record IsTableOf (k : ℕ) (places : ℕ → ℤ → ℕ → ℤ → Type 0) (rows : List Row) : Type 0 where
  pub each : (i : ℕ) → i < length rows → IsListed k places (row_at rows i)
  pub different : (i j : ℕ) → i < j → j < length rows → (row_at rows i).coefficients ≡ (row_at rows j).coefficients → ⊥
  pub all : (first : ℕ) (one : ℤ) (second : ℕ) (other : ℤ) → places first one second other
      → (i : ℕ) × (i < length rows) × IsPattern k first one second other (row_at rows i)
