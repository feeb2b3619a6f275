-- Rows with one column.
use Rattle.std.specs.Prelude.{◌≡◌, ◌≢◌, ℕ, ◌≤◌, ◌^◌, ℤ, pos, ◌-ℤ◌, List, length, Bool, if◌then◌else◌}
use Rattle.std.specs.Int.RustNames.{unsigned_abs}
use Rattle.rv_rows.specs.{declared.linear.Row.Row, Rows.coefficient, Rows.Holds}
use Rattle.rv_proofs.specs.Boxes.{HasOneColumn, HasUnit}

-- The row has a number other than 0 at column k, and 0 at all others.
pub record IsOnlyColumn (r : Row) (k : ℕ) : Type 0 where
  pub here : coefficient k r ≢ pos 0
  pub others : (n : ℕ) → n ≢ k → coefficient n r ≡ pos 0

-- the row holds at the point, where it has exactly one column
abbrev pub HoldsAlone : Row → List ℤ → Type 0
HoldsAlone r point = HasOneColumn r → Holds r point

-- A row of a test over so many columns: with exactly one column it has 1 or -1 there, and its bound has no magnitude above 2^60.
pub record IsFit (columns : ℕ) (r : Row) : Type 0 where
  pub narrow : length r.coefficients ≤ columns
  pub unit : HasUnit r
  pub bound : unsigned_abs r.bound ≤ 2 ^ 60

-- the number, or its opposite
abbrev pub sided : Bool → ℤ → ℤ
sided is_high x = if is_high then x else pos 0 -ℤ x
