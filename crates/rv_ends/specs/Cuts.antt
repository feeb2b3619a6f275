-- What more bounds make of boxes.
use Rattle.std.specs.Prelude.{◌≡◌, ◌↔◌, ℕ, ◌+◌, ◌<◌, ℤ, pos, ◌-ℤ◌, true, List, length, Option, Some, slice_get}
use Rattle.rv_diagram.specs.{declared.Triple.Triple, Nodes.Valuation}
use Rattle.rv_rows.specs.declared.linear.Row.{Row}
use Rattle.rv_cases.specs.{declared.asking.Questions.Questions, Conditions.is_in, Conditions.list_at, Questions.rows_at}
use Rattle.rv_ends.specs.{declared.ends.Ends.Ends, Columns.HoldsAlone, Intervals.Interval, Intervals.IsAtMost, Intervals.IsInside, Intervals.IsWithin}
use Rattle.rv_ends.specs.{Intervals.free}
use Rattle.rv_ends.specs.Sides.{IsSide, interval_of, box_at}

-- the numbers in the new interval are those in the old one of which this is so
abbrev pub IsCut : Interval → Interval → (ℤ → Type 0) → Type 0
IsCut old new p = (x : ℤ) → IsInside new x ↔ (IsInside old x × p x)

-- at each valuation the points of the new box are those of the old one of which this is so there
abbrev pub AreCut : List Triple → List Triple → List Ends → List Ends → (Valuation → List ℤ → Type 0) → Type 0
AreCut old new before after p = (v : Valuation) (point : List ℤ) → IsWithin (box_at new after v) point ↔ (IsWithin (box_at old before v) point × p v point)

-- the number is at most one bound, and its opposite at most the other
abbrev pub IsLimited : Option ℤ → Option ℤ → ℤ → Type 0
IsLimited upper lower x = IsAtMost upper x × IsAtMost lower (pos 0 -ℤ x)

-- the point meets the rows with one column of the first n rows whose answers are true at the valuation
abbrev pub MeetsFirst : List Triple → List ℕ → List Row → ℕ → Valuation → List ℤ → Type 0
MeetsFirst nodes answers rows n v point = (i : ℕ) (r : Row) → i < n → slice_get rows i ≡ Some r → is_in nodes answers (i + 1) v ≡ true → HoldsAlone r point

-- the point meets such rows of the first n tests
abbrev pub MeetsTests : List Triple → Questions → ℕ → Valuation → List ℤ → Type 0
MeetsTests nodes q n v point = (t : ℕ) → t < n
    → MeetsFirst nodes (list_at q.questions t) (rows_at q.rows t) (length (rows_at q.rows t)) v point

-- The ends of a column have no bound at any valuation.
pub record IsFree (nodes : List Triple) (e : Ends) : Type 0 where
  pub high : IsSide nodes 0 e.high
  pub low : IsSide nodes 0 e.low
  pub none : (v : Valuation) → interval_of nodes v e ≡ free
