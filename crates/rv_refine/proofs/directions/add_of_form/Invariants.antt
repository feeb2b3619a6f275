use Rattle.rv_refine.specs.Sides.{AreIncrements}
use Rattle.rv_refine.proofs.directions.add_of_form.Given as goal

abbrev pub invariant-loop-column : goal.invariant-loop-column
invariant-loop-column l = AreIncrements l.list
