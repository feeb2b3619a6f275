use Rattle.std.proofs.Common.{length}
use Rattle.rv_boxes.specs.Certifying.{AreReached}
use Rattle.rv_boxes.proofs.entries.reach_rows.Given as goal

abbrev pub invariant-loop-place : goal.invariant-loop-place
invariant-loop-place l = AreReached (length l.ends) l.premises l.updates l.wanted l.place l.reach
