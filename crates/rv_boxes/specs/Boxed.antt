-- The box of premises: what those with exactly one coefficient say. Peak values over it.
use Rattle.std.specs.Prelude.{◌≡◌, ◌⊎◌, ℕ, ◌*◌, ◌^◌, ◌<◌, ◌≤◌, ℤ, pos, ◌+ℤ◌, ◌≤ℤ◌, ◌<ℤ◌, List, length, All, Some, None}
use Rattle.std.specs.Int.RustNames.{unsigned_abs}
use Rattle.rv_rows.specs.{declared.linear.Row.Row, declared.farkas.Weight.Weight, Rows.dot, Rows.Holds, Rows.coefficient, Rows.row_at, Rows.RowWithin}
use Rattle.rv_rows.specs.{Forms.number, Multipliers.weighted, Multipliers.Refutes, declared.farkas.Multipliers.Multipliers}
use Rattle.rv_proofs.specs.{Ranges.IsRecord, Boxes.HasOneColumn, Boxes.HasUnit}
use Rattle.rv_boxes.specs.{declared.ends.End.End, declared.peaks.Peak.Peak, Ends.end_at, Weighing.Rises}

-- A point of the box: each premise with exactly one coefficient other than 0 holds.
pub record IsBoxed (width : ℕ) (rows : List Row) (point : List ℤ) : Type 0 where
  pub size : length point ≡ width
  pub holds : (p : ℕ) → p < length rows → HasOneColumn (row_at rows p) → Holds (row_at rows p) point

abbrev pub HasBoxed : ℕ → List Row → Type 0
HasBoxed width rows = (point : List ℤ) × IsBoxed width rows point

-- premises over so many columns
pub record ArePremises (width : ℕ) (rows : List Row) : Type 0 where
  pub few : length rows < 2 ^ 32
  pub within : All (RowWithin (2 ^ 60)) rows
  pub wide : (p : ℕ) → p < length rows → length (row_at rows p).coefficients ≤ width
  pub sizes : (p : ℕ) → p < length rows → All (λ c. unsigned_abs c ≤ 2 ^ 41) (row_at rows p).coefficients
  pub units : (p : ℕ) → p < length rows → HasUnit (row_at rows p)

-- The box has a point, and each premise holds at some point of it: its least value is not above its bound.
pub record IsOpenBox (width : ℕ) (rows : List Row) : Type 0 where
  pub some : HasBoxed width rows
  pub each : (p : ℕ) → p < length rows → (point : List ℤ) × IsBoxed width rows point × Holds (row_at rows p) point

-- the ends of a column exclude each other
pub record IsCrossed (rows : List Row) (e : End) : Type 0 where
  pub low : ℕ
  pub high : ℕ
  pub is_low : e.low ≡ Some low
  pub is_high : e.high ≡ Some high
  pub crossed : ((row_at rows low).bound +ℤ (row_at rows high).bound) <ℤ pos 0

-- the ends of no column do
abbrev pub IsUncrossed : List Row → List End → ℕ → Type 0
IsUncrossed rows ends n = (k : ℕ) → k < n → ¬ IsCrossed rows (end_at ends k)

-- The premise is the end of the column towards which the sum grows, by the number at the column.
abbrev pub IsTowards : End → ℤ → ℕ → Type 0
IsTowards e c p = ((pos 0 <ℤ c) × (e.high ≡ Some p)) ⊎ ((c <ℤ pos 0) × (e.low ≡ Some p))

-- The column has no such end.
abbrev pub IsLoose : End → ℤ → Type 0
IsLoose e c = ((pos 0 <ℤ c) × (e.high ≡ None)) ⊎ ((c <ℤ pos 0) × (e.low ≡ None))

-- the weight of one of the first n columns: the magnitude of its number, on its end
abbrev pub IsColumnWeight : List End → List ℤ → ℕ → Weight → Type 0
IsColumnWeight ends numbers n w = (k : ℕ) × (k < n) × (w.by ≡ pos (unsigned_abs (number k numbers))) × IsTowards (end_at ends k) (number k numbers) w.premise

-- The weights of the first n columns, and the sum of their bounds.
pub record IsSummed (rows : List Row) (ends : List End) (numbers : List ℤ) (n : ℕ) (g : Peak) : Type 0 where
  pub below : (m : ℕ) → m < n → weighted (coefficient m) rows g.weights ≡ number m numbers
  pub above : (m : ℕ) → n ≤ m → weighted (coefficient m) rows g.weights ≡ pos 0
  pub bound : g.bound ≡ weighted (λ r. r.bound) rows g.weights
  pub room : unsigned_abs g.bound ≤ n * 2 ^ 101
  pub named : All (IsColumnWeight ends numbers n) g.weights
  pub rises : Rises g.weights
  pub count : length g.weights ≤ n

-- The bound is the greatest value of the sum over the box, and the weights prove it: they stand on premises with one
-- coefficient, and their rows sum to the sum of the numbers.
pub record IsGreatest (width : ℕ) (rows : List Row) (numbers : List ℤ) (g : Peak) : Type 0 where
  pub sides : (m : ℕ) → weighted (coefficient m) rows g.weights ≡ number m numbers
  pub bound : weighted (λ r. r.bound) rows g.weights ≡ g.bound
  pub room : unsigned_abs g.bound ≤ length numbers * 2 ^ 101
  pub units : All (λ w. (w.premise < length rows) × HasOneColumn (row_at rows w.premise)) g.weights
  pub weights : All (λ w. (pos 1 ≤ℤ w.by) × (w.by ≤ℤ pos (2 ^ 41))) g.weights
  pub rises : Rises g.weights
  pub count : length g.weights ≤ length numbers
  pub most : (point : List ℤ) → IsBoxed width rows point → dot numbers point ≤ℤ g.bound
  pub reached : (point : List ℤ) × IsBoxed width rows point × (dot numbers point ≡ g.bound)

-- The sum has no greatest value over the box.
abbrev pub IsUnbounded : ℕ → List Row → List ℤ → Type 0
IsUnbounded width rows numbers = (z : ℤ) → (point : List ℤ) × IsBoxed width rows point × (z ≤ℤ dot numbers point)

-- The row says nothing: it is `0 <= b` with b at least 0.
pub record IsVoid (r : Row) : Type 0 where
  pub zeros : (k : ℕ) → coefficient k r ≡ pos 0
  pub bound : pos 0 ≤ℤ r.bound

-- The multipliers refute the premises, within the ranges of a document, and name none that says nothing.
pub record IsRefutation (rows : List Row) (m : Multipliers) : Type 0 where
  pub refutes : Refutes rows m
  pub record_of : IsRecord (length rows) m
  pub useful : All (λ w. ¬ IsVoid (row_at rows w.premise)) m.weights
