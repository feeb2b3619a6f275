use Rattle.rv_refine.specs.Sides.{AreLeftSides}
use Rattle.rv_refine.proofs.directions.add_before.Given as goal

abbrev pub invariant-loop-first : goal.invariant-loop-first
invariant-loop-first l = AreLeftSides l.memories l.sides
