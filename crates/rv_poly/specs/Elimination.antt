-- How the rows of the step of Fourier and Motzkin are kept, or dropped and counted, and how many there are.
use Rattle.std.specs.Prelude.{◌≡◌, ◌⊎◌, ℕ, ◌<◌, ◌≤◌, ◌+◌, ◌*◌, pos, ◌≤ℤ◌, ◌<ℤ◌, List, [], ◌∷◌, length, take, All, slice_index_or, int_lt}
use Rattle.std.specs.{Ordering.int_eq, List.Contains, List.count_by, Int.RustNames.unsigned_abs}
use Rattle.rv_rows.specs.{declared.linear.Row.Row, Rows.coefficient, Tight.Fits}
use Rattle.rv_poly.specs.{declared.eliminate.Eliminated.Eliminated, Projection.IsCombined}

-- How many of the rows have a positive, a negative and no coefficient at column k.
abbrev pub positives : ℕ → List Row → ℕ
positives k rows = count_by (λ r. int_lt (pos 0) (coefficient k r)) rows

abbrev pub negatives : ℕ → List Row → ℕ
negatives k rows = count_by (λ r. int_lt (coefficient k r) (pos 0)) rows

abbrev pub zeros : ℕ → List Row → ℕ
zeros k rows = count_by (λ r. int_eq (coefficient k r) (pos 0)) rows

-- No coefficient of the row has a magnitude above m, and its bound none above c.
pub record IsRowWithin (m c : ℕ) (r : Row) : Type 0 where
  pub coefficients : All (λ x. unsigned_abs x ≤ m) r.coefficients
  pub bound : unsigned_abs r.bound ≤ c

-- The rows of a list were handed in one by one. Each was kept where it is within the limits of kept rows and fewer than 1,024 rows were
-- there, and else dropped and counted.
pub record AreKept (from : List Row) (old new : Eliminated) : Type 0 where
  pub known : (r : Row) → Contains new.rows r → Contains old.rows r ⊎ Contains from r
  pub kept : (r : Row) → Contains old.rows r → Contains new.rows r
  pub all : new.dropped ≡ old.dropped → (r : Row) → Contains from r → Contains new.rows r
  pub grows : old.dropped ≤ new.dropped
  pub dropped : new.dropped ≤ old.dropped + length from
  pub size : length new.rows ≤ length old.rows + length from
  pub most : length old.rows ≤ 1024 → length new.rows ≤ 1024
  pub fits : All Fits old.rows → All Fits new.rows
  pub room : All Fits from → length old.rows + length from ≤ 1024 → new.dropped ≡ old.dropped

-- A row that is free of column k was handed in, and another was not.
abbrev pub IsFreeTaken : ℕ → Row → Eliminated → Eliminated → Type 0
IsFreeTaken k r old new = ((coefficient k r ≡ pos 0) × AreKept (r ∷ []) old new) ⊎ ((coefficient k r ≡ pos 0 → ⊥) × (new ≡ old))

-- Those of the first n rows that are free of column k were handed in.
pub record AreFreeTaken (k : ℕ) (rows : List Row) (n : ℕ) (old new : Eliminated) : Type 0 where
  pub part : List Row
  pub kept : AreKept part old new
  pub known : (r : Row) → Contains part r → Contains rows r × (coefficient k r ≡ pos 0)
  pub found : (i : ℕ) (d : Row) → i < n → i < length rows → coefficient k (slice_index_or rows i d) ≡ pos 0 → Contains part (slice_index_or rows i d)
  pub count : length part ≤ zeros k (take n rows)

-- The combination with a row whose coefficient at column k is negative was handed in, and none with another.
abbrev pub IsPairTaken : ℕ → Row → Row → Eliminated → Eliminated → Type 0
IsPairTaken k p q old new = ((coefficient k q <ℤ pos 0) × ((r : Row) × IsCombined k p q r × AreKept (r ∷ []) old new))
    ⊎ ((pos 0 ≤ℤ coefficient k q) × (new ≡ old))

-- So were the combinations of a row with those of the first n rows whose coefficient is negative.
pub record ArePairsTaken (k : ℕ) (p : Row) (rows : List Row) (n : ℕ) (old new : Eliminated) : Type 0 where
  pub part : List Row
  pub kept : AreKept part old new
  pub known : (r : Row) → Contains part r → (q : Row) × Contains rows q × (coefficient k q <ℤ pos 0) × IsCombined k p q r
  pub found : (i : ℕ) (d : Row) → i < n → i < length rows → coefficient k (slice_index_or rows i d) <ℤ pos 0
      → (r : Row) × IsCombined k p (slice_index_or rows i d) r × Contains part r
  pub count : length part ≤ negatives k (take n rows)

-- So were they where the row's own coefficient is positive, and none where it is not.
abbrev pub IsRowPaired : ℕ → Row → List Row → Eliminated → Eliminated → Type 0
IsRowPaired k p rows old new = ((pos 0 <ℤ coefficient k p) × ArePairsTaken k p rows (length rows) old new) ⊎ ((coefficient k p ≤ℤ pos 0) × (new ≡ old))

-- So it is for the first n rows.
pub record AreRowsPaired (k : ℕ) (rows : List Row) (n : ℕ) (old new : Eliminated) : Type 0 where
  pub part : List Row
  pub kept : AreKept part old new
  pub known : (r : Row) → Contains part r
      → (p : Row) × (q : Row) × Contains rows p × Contains rows q × (pos 0 <ℤ coefficient k p) × (coefficient k q <ℤ pos 0) × IsCombined k p q r
  pub found : (i : ℕ) (d : Row) (q : Row) → i < n → i < length rows → pos 0 <ℤ coefficient k (slice_index_or rows i d) → Contains rows q
      → coefficient k q <ℤ pos 0
      → (r : Row) × IsCombined k (slice_index_or rows i d) q r × Contains part r
  pub count : length part ≤ positives k (take n rows) * negatives k rows
