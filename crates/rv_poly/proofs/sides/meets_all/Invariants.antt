use Rattle.std.specs.List.{AllWithin}
use Rattle.rv_rows.specs.Rows.{Holds}
use Rattle.rv_poly.proofs.sides.meets_all.Given as goal

abbrev pub invariant-loop-row : goal.invariant-loop-row
invariant-loop-row l = AllWithin (λ r. Holds r l.point) l.rows 0 l.row-index
