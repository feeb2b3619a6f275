-- Rows without those that show nothing.
use Rattle.std.specs.Prelude.{◌≡◌, ◌↔◌, ◌⊎◌, ℕ, pos, ◌≤ℤ◌, List}
use Rattle.std.specs.List.{Contains}
use Rattle.rv_rows.specs.{declared.linear.Row.Row, Rows.coefficient, Multipliers.ShowsAtOnce}

-- The left side is 0 in each column.
abbrev pub IsZero : Row → Type 0
IsZero r = (k : ℕ) → coefficient k r ≡ pos 0

-- No row with a left side of zeros has a negative bound.
abbrev pub AreMet : List Row → Type 0
AreMet rows = (r : Row) → Contains rows r → IsZero r → pos 0 ≤ℤ r.bound

-- The second list has no other rows, leaves out such with a left side of zeros alone, and shows the same where those are met.
pub record Tells (rows told : List Row) : Type 0 where
  pub among : (r : Row) → Contains told r → Contains rows r
  pub others : (r : Row) → Contains rows r → Contains told r ⊎ IsZero r
  pub same : AreMet rows → (w : Row) → ShowsAtOnce told w ↔ ShowsAtOnce rows w
