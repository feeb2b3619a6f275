-- Rows moved by the constants of updates, and sums of any size in two parts.
use Rattle.std.specs.Prelude.{◌≡◌, ℕ, ◌^◌, ℤ, pos, ◌+ℤ◌, ◌*ℤ◌, ◌≤ℤ◌, ◌<ℤ◌, List, length, map}
use Rattle.rv_rows.specs.{declared.linear.Row.Row, declared.linear.Form.Form, Forms.number, Rows.coefficient, Rows.dot}
use Rattle.rv_poly.specs.{Images.IsNarrow, Images.StaysWithin, Carried.IsCarriedAdded, Carried.AreCarried, declared.wide.Wide.Wide}

-- what a sum in two parts is: the high part times 2^96, plus the low part
abbrev pub whole_of : Wide → ℤ
whole_of w = (pos (2 ^ 96) *ℤ w.high) +ℤ w.low

-- The low part is from 0 to below 2^96.
pub record IsNormal (w : Wide) : Type 0 where
  pub low : pos 0 ≤ℤ w.low
  pub high : w.low <ℤ pos (2 ^ 96)

-- The form is a column plus a constant.
abbrev pub IsOwnPlus : ℕ → Form → Type 0
IsOwnPlus column f = (number column f.coefficients ≡ pos 1) × ((n : ℕ) → (n ≡ column → ⊥) → number n f.coefficients ≡ pos 0)

-- The row over one column for each update, moved by the constants of the updates: `a*x <= b` has become `a*x <= b + a*c`.
pub record IsMoved (updates : List Form) (old new : Row) : Type 0 where
  pub size : length new.coefficients ≡ length updates
  pub same : (k : ℕ) → coefficient k new ≡ coefficient k old
  pub bound : new.bound ≡ old.bound +ℤ dot old.coefficients (map (λ f. f.constant) updates)

-- The row can be moved: it has no coefficient at a further column, and its bound stays within the limit of a kept row.
pub record CanMove (updates : List Form) (r : Row) : Type 0 where
  pub narrow : IsNarrow (length updates) r
  pub stays : StaysWithin updates r

-- A row that can be moved is added, moved, and another is not.
abbrev pub IsMovedAdded : List Form → Row → List Row → List Row → Type 0
IsMovedAdded updates r old new = IsCarriedAdded (CanMove updates) (IsMoved updates) r old new

-- Of the first n rows those that can be moved are there, moved, and each row that is there is one of the rows, moved.
abbrev pub AreMoved : List Form → List Row → ℕ → List Row → Type 0
AreMoved updates old n new = AreCarried (CanMove updates) (IsMoved updates) old n new
