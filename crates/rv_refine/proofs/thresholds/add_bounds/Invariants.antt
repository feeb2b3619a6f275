use Rattle.rv_refine.specs.Sides.{AreSmall}
use Rattle.rv_refine.proofs.thresholds.add_bounds.Given as goal

abbrev pub invariant-loop-place : goal.invariant-loop-place
invariant-loop-place l = AreSmall l.thresholds
