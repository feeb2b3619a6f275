use Rattle.std.specs.List.{AllWithin}
use Rattle.rv_rows.specs.Rows.{RowWithin}
use Rattle.rv_tests.proofs.limits.are_rows_within.Given as goal

abbrev pub invariant-loop-row : goal.invariant-loop-row
invariant-loop-row l = AllWithin (RowWithin l.most) l.rows 0 l.row-index
