use Rattle.std.proofs.Common.{◌≡◌, pos}
use Rattle.std.specs.List.{AllWithin}
use Rattle.rv_rows.specs.Rows.{coefficient}
use Rattle.rv_poly.proofs.before.are_free.Given as goal

abbrev pub invariant-loop-row : goal.invariant-loop-row
invariant-loop-row l = AllWithin (λ r. coefficient l.column r ≡ pos 0) l.rows 0 l.row-index
