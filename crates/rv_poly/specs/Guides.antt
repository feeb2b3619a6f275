-- Lists of rows by which the numbers of a point are chosen, and the points that are chosen so.
use Rattle.std.specs.Prelude.{◌≡◌, ℕ, ◌≤◌, ℤ, List, length, All}
use Rattle.rv_rows.specs.{declared.linear.Row.Row, Tight.Fits}
use Rattle.rv_poly.specs.{Points.HasPoint, Whole.IsInReplay}

-- The rows have one width and are within the limits of a kept row.
pub record IsGuide (width : ℕ) (rows : List Row) : Type 0 where
  pub fits : All Fits rows
  pub widths : All (λ r. length r.coefficients ≡ width) rows

-- So they are after others of the kind are added.
pub record IsGuided (width : ℕ) (old new : List Row) : Type 0 where
  pub guide : IsGuide width old → IsGuide width new
  pub size : length old ≤ length new

-- Numbers of a trace, at most so many.
pub record IsTrail (width : ℕ) (point : List ℤ) : Type 0 where
  pub replay : All IsInReplay point
  pub size : length point ≤ width

-- A whole point of the rows with so many numbers, each one of a trace.
pub record IsWholePoint (rows : List Row) (width : ℕ) (point : List ℤ) : Type 0 where
  pub has : HasPoint rows point
  pub replay : All IsInReplay point
  pub size : length point ≡ width
