use Rattle.std.proofs.Common.{All}
use Rattle.rv_paths.specs.Joining.{IsJoinedRow}
use Rattle.rv_paths.proofs.unroll.joined_from.Given as goal

abbrev pub invariant-loop-instant : goal.invariant-loop-instant
invariant-loop-instant l = All (IsJoinedRow l.width) l.rows
