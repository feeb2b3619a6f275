use Rattle.std.specs.List.{AllWithin}
use Rattle.rv_rows.specs.Tight.{Fits}
use Rattle.rv_tests.proofs.limits.are_kept.Given as goal

abbrev pub invariant-loop-row : goal.invariant-loop-row
invariant-loop-row l = AllWithin Fits l.rows 0 l.row-index
