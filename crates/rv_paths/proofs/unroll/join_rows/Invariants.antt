use Rattle.std.proofs.Common.{All}
use Rattle.rv_paths.specs.Joining.{IsJoinedRow}
use Rattle.rv_paths.proofs.unroll.join_rows.Given as goal

abbrev pub invariant-loop-row : goal.invariant-loop-row
invariant-loop-row l = All (IsJoinedRow l.width) l.rows
