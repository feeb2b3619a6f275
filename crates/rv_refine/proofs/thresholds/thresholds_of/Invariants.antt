use Rattle.rv_refine.specs.Sides.{AreSmall}
use Rattle.rv_refine.proofs.thresholds.thresholds_of.Given as goal

abbrev pub invariant-loop-test : goal.invariant-loop-test
invariant-loop-test l = AreSmall l.thresholds
