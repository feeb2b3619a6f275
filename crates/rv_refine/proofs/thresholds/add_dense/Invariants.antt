use Rattle.rv_refine.specs.Sides.{AreSmall}
use Rattle.rv_refine.proofs.thresholds.add_dense.Given as goal

abbrev pub invariant-loop-magnitude : goal.invariant-loop-magnitude
invariant-loop-magnitude l = AreSmall l.thresholds
