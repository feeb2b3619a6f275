-- When a box is open: the bounds of no column exclude each other, and each row is met by some point.
use Rattle.std.specs.Prelude.{◌≡◌, ◌↔◌, ℕ, ◌+◌, ◌<◌, ◌≤◌, ◌^◌, ℤ, pos, ◌+ℤ◌, ◌-ℤ◌, ◌<ℤ◌, List, map, length, true, Some, All}
use Rattle.std.specs.Int.RustNames.{unsigned_abs}
use Rattle.rv_diagram.specs.{declared.Triple.Triple, Nodes.Valuation, Nodes.IsRef, Nodes.value_of, Several.ref_at}
use Rattle.rv_rows.specs.{declared.linear.Row.Row, Rows.Holds, Rows.row_at}
use Rattle.rv_proofs.specs.Boxes.{HasOneColumn}
use Rattle.rv_cases.specs.{declared.asking.Questions.Questions, Conditions.is_in, Conditions.list_at, Questions.rows_at}
use Rattle.rv_ends.specs.{declared.ends.Ends.Ends, Intervals.Interval, Intervals.IsWithin, Intervals.HasPoint, Sides.box_at}

-- The reference is true exactly where this holds.
pub record IsExactly (nodes : List Triple) (holds : Valuation → Type 0) (r : ℕ) : Type 0 where
  pub found : IsRef nodes r
  pub means : (v : Valuation) → (value_of nodes r v ≡ true) ↔ holds v

-- each number with the other sign
abbrev pub opposite : List ℤ → List ℤ
opposite numbers = map (λ c. pos 0 -ℤ c) numbers

-- The bounds exclude each other: they sum to less than 0.
pub record IsCrossed (i : Interval) : Type 0 where
  pub upper : ℤ
  pub lower : ℤ
  pub is_high : i.high ≡ Some upper
  pub is_low : i.low ≡ Some lower
  pub crossed : (upper +ℤ lower) <ℤ pos 0

-- some point of the box meets the row
abbrev pub IsMetIn : List Interval → Row → Type 0
IsMetIn box r = (point : List ℤ) × IsWithin box point × Holds r point

-- A row over at most so many columns, with numbers in the ranges of a test's.
pub record IsFitting (columns : ℕ) (r : Row) : Type 0 where
  pub narrow : length r.coefficients ≤ columns
  pub coefficients : All (λ c. unsigned_abs c ≤ 2 ^ 41) r.coefficients
  pub bound : unsigned_abs r.bound ≤ 2 ^ 60

-- Where it counts, the row fits; with one column it holds there in all of the box.
pub record IsRowOf (nodes : List Triple) (ends : List Ends) (whole under : ℕ) (r : Row) : Type 0 where
  pub fits : (v : Valuation) → value_of nodes under v ≡ true → IsFitting (length ends) r
  pub narrow : (v : Valuation) → value_of nodes whole v ≡ true → value_of nodes under v ≡ true → HasOneColumn r
      → (point : List ℤ) → IsWithin (box_at nodes ends v) point → Holds r point

-- the same for the rows of a test, each under its answer
abbrev pub AreRowsOf : List Triple → List Ends → ℕ → List ℕ → List Row → Type 0
AreRowsOf nodes ends whole answers rows = (i : ℕ) → i < length rows → IsRowOf nodes ends whole (ref_at answers (i + 1)) (row_at rows i)

-- of the first n rows of a test the one whose answer is given is met
abbrev pub AreMet : List Triple → List Ends → List ℕ → List Row → ℕ → Valuation → Type 0
AreMet nodes ends answers rows n v = (i : ℕ) → i < n → is_in nodes answers (i + 1) v ≡ true → IsMetIn (box_at nodes ends v) (row_at rows i)

-- so it is for the first n tests
abbrev pub AreTestsMet : List Triple → List Ends → Questions → ℕ → Valuation → Type 0
AreTestsMet nodes ends q n v = (t : ℕ) → t < n → AreMet nodes ends (list_at q.questions t) (rows_at q.rows t) (length (rows_at q.rows t)) v

-- the box is not empty, and the row of each present test is met
abbrev pub HasOpenBox : List Triple → List Ends → Questions → Valuation → Type 0
HasOpenBox nodes ends q v = HasPoint (box_at nodes ends v) × AreTestsMet nodes ends q (length q.rows) v
