-- Boxes as lists of intervals, one for each column, and the greatest value of a sum over them.
use Rattle.std.specs.Prelude.{◌≡◌, ℕ, ◌<◌, ℤ, pos, ◌-ℤ◌, ◌≤ℤ◌, List, length, Option, Some, slice_index_or, None as Nothing}
use Rattle.rv_rows.specs.{Rows.dot, Forms.number}

-- What is known of a column: that it is at most `high`, and its opposite at most `low`, as far as there are such bounds.
pub record Interval : Type 0 where
  pub high : Option ℤ
  pub low : Option ℤ

-- the number is at most the bound, where there is one
abbrev pub IsAtMost : Option ℤ → ℤ → Type 0
IsAtMost bound x = (b : ℤ) → bound ≡ Some b → x ≤ℤ b

-- the number is in the interval
pub record IsInside (i : Interval) (x : ℤ) : Type 0 where
  pub high : IsAtMost i.high x
  pub low : IsAtMost i.low (pos 0 -ℤ x)

-- the interval of which nothing is known
abbrev pub free : Interval
free = record { high = Nothing; low = Nothing }

-- the interval of column k
abbrev pub interval_at : List Interval → ℕ → Interval
interval_at box k = slice_index_or box k free

-- The point has a number for each interval, which is inside.
pub record IsWithin (box : List Interval) (point : List ℤ) : Type 0 where
  pub size : length point ≡ length box
  pub each : (k : ℕ) → k < length box → IsInside (interval_at box k) (number k point)

-- the box is not empty
abbrev pub HasPoint : List Interval → Type 0
HasPoint box = (point : List ℤ) × IsWithin box point

-- The bound is the greatest value, over the box, of the sum of the columns times the numbers; none where there is no greatest.
pub record IsPeak (box : List Interval) (numbers : List ℤ) (bound : Option ℤ) : Type 0 where
  pub most : (z : ℤ) → bound ≡ Some z → (point : List ℤ) → IsWithin box point → dot numbers point ≤ℤ z
  pub reached : (z : ℤ) → bound ≡ Some z → (point : List ℤ) × IsWithin box point × (dot numbers point ≡ z)
  pub unbounded : bound ≡ Nothing → (z : ℤ) → (point : List ℤ) × IsWithin box point × (z ≤ℤ dot numbers point)
