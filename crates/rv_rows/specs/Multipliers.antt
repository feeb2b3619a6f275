-- Multipliers of rows: the easy direction of Farkas' lemma, with rounding for whole numbers.
use Rattle.std.specs.Prelude.{◌≡◌, ℕ, ◌<◌, ◌≤◌, ℤ, pos, negsuc, ◌+ℤ◌, ◌*ℤ◌, ◌≤ℤ◌, ◌<ℤ◌, List, [], ◌∷◌, All, length}
use Rattle.std.specs.Int.RustNames.{unsigned_abs}
use Rattle.rv_rows.specs.{declared.linear.Row.Row, declared.farkas.Weight.Weight, declared.farkas.Multipliers.Multipliers, Rows.coefficient, Rows.row_at}

-- The weighted sum of one number of each named premise, which `f` picks. A premise that is named twice counts
-- with both weights.
abbrev pub weighted : (Row → ℤ) → List Row → List Weight → ℤ
weighted f rows [] = pos 0
weighted f rows (w ∷ ws) = (w.by *ℤ f (row_at rows w.premise)) +ℤ weighted f rows ws

-- The weighted left sides of the premises sum to the divisor times the wanted left side, at each column.
abbrev pub Sides : List Row → Row → Multipliers → Type 0
Sides rows wanted m = (k : ℕ) → weighted (coefficient k) rows m.weights ≡ m.divisor *ℤ coefficient k wanted

-- Weights on premises prove a row with bound b: the divisor d is at least 1, no weight is negative, the left
-- sides sum to d times the row's, and the bounds sum to less than d * (b + 1).
pub record Proves (rows : List Row) (wanted : Row) (m : Multipliers) : Type 0 where
  pub positive : pos 1 ≤ℤ m.divisor
  pub none_negative : All (λ w. pos 0 ≤ℤ w.by) m.weights
  pub sides : Sides rows wanted m
  pub bounds : weighted (λ r. r.bound) rows m.weights <ℤ (m.divisor *ℤ (wanted.bound +ℤ pos 1))

-- The weighted left sides of the premises sum to zero, at each column.
abbrev pub Cancels : List Row → List Weight → Type 0
Cancels rows ws = (k : ℕ) → weighted (coefficient k) rows ws ≡ pos 0

-- Weights on premises refute them: the divisor is 1, no weight is negative, the left sides sum to zero, and the
-- bounds sum to less than 0.
pub record Refutes (rows : List Row) (m : Multipliers) : Type 0 where
  pub divisor : m.divisor ≡ pos 1
  pub none_negative : All (λ w. pos 0 ≤ℤ w.by) m.weights
  pub sides : Cancels rows m.weights
  pub bounds : weighted (λ r. r.bound) rows m.weights <ℤ pos 0

-- The left sides of none, one or two different premises sum to the row's left side, and their bounds to at most
-- its bound. Two premises are different where their numbers are.
pub data ShowsAtOnce (rows : List Row) (wanted : Row) : Type 0 where
  by_none : ((k : ℕ) → coefficient k wanted ≡ pos 0) → pos 0 ≤ℤ wanted.bound → ShowsAtOnce rows wanted
  by_one : (i : ℕ) → i < length rows → ((k : ℕ) → coefficient k wanted ≡ coefficient k (row_at rows i))
      → (row_at rows i).bound ≤ℤ wanted.bound → ShowsAtOnce rows wanted
  by_two : (i j : ℕ) → i < j → j < length rows
      → ((k : ℕ) → coefficient k wanted ≡ coefficient k (row_at rows i) +ℤ coefficient k (row_at rows j))
      → ((row_at rows i).bound +ℤ (row_at rows j).bound) ≤ℤ wanted.bound → ShowsAtOnce rows wanted

-- The left sides of none, one or two different premises sum to zero, and their bounds to less than 0: they show
-- `0 <= -1` at once.
abbrev pub AreShutAtOnce : List Row → Type 0
AreShutAtOnce rows = ShowsAtOnce rows (record { coefficients = []; bound = negsuc 0 })

-- Each weight names a premise that is there.
abbrev pub IsInRange : List Row → List Weight → Type 0
IsInRange rows ws = All (λ w. w.premise < length rows) ws

-- No weight has a magnitude above n, and there are at most `most` of them.
abbrev pub WeightsWithin : ℕ → ℕ → List Weight → Type 0
WeightsWithin n most ws = All (λ w. unsigned_abs w.by ≤ n) ws × (length ws ≤ most)

-- Each weighted sum, of the bounds and of each column, has a magnitude below n.
pub record SumsBelow (n : ℕ) (rows : List Row) (ws : List Weight) : Type 0 where
  pub sides : (k : ℕ) → unsigned_abs (weighted (coefficient k) rows ws) < n
  pub bounds : unsigned_abs (weighted (λ r. r.bound) rows ws) < n
