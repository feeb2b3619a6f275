use Rattle.rv_refine.specs.Sides.{AreIncrements}
use Rattle.rv_refine.proofs.directions.add_ends.Given as goal

abbrev pub invariant-loop-place : goal.invariant-loop-place
invariant-loop-place l = AreIncrements l.list
