-- The points before updates, and when they are exact.
use Rattle.std.specs.Prelude.{◌≡◌, ◌↔◌, ℕ, ◌≤◌, ◌+◌, ◌^◌, ℤ, ◌-ℤ◌, List, ◌++◌, length, map, All}
use Rattle.std.specs.Int.RustNames.{unsigned_abs}
use Rattle.rv_rows.specs.Forms.{values}
use Rattle.rv_rows.specs.{declared.linear.Row.Row, declared.linear.Form.Form, Rows.coefficient, Rows.dot, Rows.Holds, Tight.Fits}
use Rattle.rv_poly.specs.{Points.HasPoint, Polys.IsPoly, Images.AreMoves, Images.IsNarrow}

-- The point, with one number for each update and together with so many whole inputs, meets the rows, and its updated point is one of the
-- polyhedron's.
pub record IsBefore (poly rows : List Row) (updates : List Form) (inputs : ℕ) (point : List ℤ) : Type 0 where
  pub size : length point ≡ length updates
  pub further : List ℤ
  pub count : length further ≡ inputs
  pub meets : HasPoint rows (point ++ further)
  pub after : HasPoint poly (values updates (point ++ further))

-- The row moved by the negatives of the constants of the updates has a bound within the limit of a kept row.
abbrev pub StaysBefore : List Form → Row → Type 0
StaysBefore updates r = unsigned_abs (r.bound -ℤ dot r.coefficients (map (λ f. f.constant) updates)) ≤ 2 ^ 60

-- Each update is its own column plus a constant, the rows have no input and are within the limits of kept rows, the polyhedron's own stay
-- within them when they are moved by the negatives of the constants, and they are at most 1,024 together.
pub record IsBackMove (poly rows : List Row) (updates : List Form) : Type 0 where
  pub moves : AreMoves updates
  pub narrow : All (IsNarrow (length updates)) rows
  pub fits : All Fits rows
  pub stays : All (StaysBefore updates) poly
  pub few : length poly + length rows ≤ 1024

-- The second row holds at a point exactly where the first holds at the updated point.
abbrev pub IsBack : List Form → Row → Row → Type 0
IsBack updates r s = (point : List ℤ) → Holds s point ↔ Holds r (values updates point)

-- Where the updates are moves, it has besides no coefficient at a further column.
pub record IsEarlier (updates : List Form) (r s : Row) : Type 0 where
  pub back : IsBack updates r s
  pub narrow : AreMoves updates → IsNarrow (length updates) s

-- The row can be moved by the negatives of the constants of the updates.
pub record CanGoBack (updates : List Form) (r : Row) : Type 0 where
  pub moves : AreMoves updates
  pub stays : StaysBefore updates r

-- The row is written over so many columns, and has no coefficient at a further one.
pub record IsLevel (width : ℕ) (old new : Row) : Type 0 where
  pub size : length new.coefficients ≡ width
  pub same : (k : ℕ) → coefficient k new ≡ coefficient k old
  pub bound : new.bound ≡ old.bound

-- Each point of the old rows meets the new ones, which are the old ones where these have no coefficient from a column on.
pub record IsWithoutColumns (from : ℕ) (old new : List Row) : Type 0 where
  pub poly : IsPoly new
  pub few : length new ≤ 1024
  pub points : (point : List ℤ) → HasPoint old point → HasPoint new point
  pub same : All (IsNarrow from) old → new ≡ old
