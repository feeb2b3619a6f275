use Rattle.rv_refine.specs.Sides.{AreSmall}
use Rattle.rv_refine.proofs.thresholds.add_around.Given as goal

abbrev pub invariant-loop-shift : goal.invariant-loop-shift
invariant-loop-shift l = AreSmall l.thresholds
