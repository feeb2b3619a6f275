use Rattle.rv_refine.specs.Sides.{AreLeftSides}
use Rattle.rv_refine.proofs.hull.after_growths.Given as goal

abbrev pub invariant-loop-place : goal.invariant-loop-place
invariant-loop-place l = AreLeftSides l.memories l.rest
