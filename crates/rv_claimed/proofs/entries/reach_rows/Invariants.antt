use Rattle.rv_claimed.specs.Certifying.{AreReached}
use Rattle.rv_claimed.proofs.entries.reach_rows.Given as goal

abbrev pub invariant-loop-place : goal.invariant-loop-place
invariant-loop-place l = AreReached l.many l.given l.case l.wanted l.place l.reach
