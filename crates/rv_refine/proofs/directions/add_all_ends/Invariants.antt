use Rattle.rv_refine.specs.Sides.{AreIncrements}
use Rattle.rv_refine.proofs.directions.add_all_ends.Given as goal

abbrev pub invariant-loop-test : goal.invariant-loop-test
invariant-loop-test l = AreIncrements l.list
