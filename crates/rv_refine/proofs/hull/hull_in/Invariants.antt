use Rattle.std.proofs.Common.{length}
use Rattle.rv_diagram.specs.Growing.{Extends}
use Rattle.rv_refine.specs.Hulls.{IsHull}
use Rattle.rv_refine.proofs.hull.hull_in.Given as goal

abbrev pub invariant-loop-step : goal.invariant-loop-step
invariant-loop-step l = record {
  extends : Extends l.fn.store l.store;
  hull : IsHull (length l.questions.forms) l.store.nodes l.hull;
}
