use Rattle.std.proofs.Common.{◌≡◌, take}
use Rattle.rv_rows.specs.Rows.{dot}
use Rattle.rv_poly.proofs.sides.left_side.Given as goal

abbrev pub invariant-loop-place : goal.invariant-loop-place
invariant-loop-place l = l.sum ≡ dot (take l.place l.coefficients) l.point
