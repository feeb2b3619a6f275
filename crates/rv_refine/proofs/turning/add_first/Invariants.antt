use Rattle.std.proofs.Common.{◌^◌, All}
use Rattle.rv_rows.specs.Rows.{RowWithin}
use Rattle.rv_refine.proofs.turning.add_first.Given as goal

abbrev pub invariant-loop-place : goal.invariant-loop-place
invariant-loop-place l = All (RowWithin (2 ^ 60)) l.rows
