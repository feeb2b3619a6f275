use Rattle.std.proofs.Common.{All}
use Rattle.rv_paths.specs.Joining.{IsJoinedRow}
use Rattle.rv_paths.proofs.unroll.rows_within.Given as goal

abbrev pub invariant-loop-span : goal.invariant-loop-span
invariant-loop-span l = All (IsJoinedRow l.width) l.rows
