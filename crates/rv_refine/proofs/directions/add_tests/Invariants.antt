use Rattle.rv_refine.specs.Sides.{AreLeftSides}
use Rattle.rv_refine.proofs.directions.add_tests.Given as goal

abbrev pub invariant-loop-test : goal.invariant-loop-test
invariant-loop-test l = AreLeftSides l.memories l.sides
