-- The rows that are joined along a path.
use Rattle.std.specs.Prelude.{◌≡◌, ℕ, List, length, All}
use Rattle.rv_rows.specs.{declared.linear.Row.Row, Tight.Fits}

-- The row has so many columns, and is within the limits of kept rows.
pub record IsJoinedRow (width : ℕ) (r : Row) : Type 0 where
  pub wide : length r.coefficients ≡ width
  pub fits : Fits r

-- The rows have one width, and are within the limits of kept rows.
pub record AreJoined (rows : List Row) : Type 0 where
  pub width : ℕ
  pub each : All (IsJoinedRow width) rows
