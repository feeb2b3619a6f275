use Rattle.std.proofs.Common.{length}
use Rattle.rv_boxes.specs.Bounding.{AreLimitRows}
use Rattle.rv_boxes.proofs.bounding.limit_rows.Given as goal

abbrev pub invariant-loop-memory : goal.invariant-loop-memory
invariant-loop-memory l = AreLimitRows l.limits (length l.limits) l.sign l.memory l.rows
