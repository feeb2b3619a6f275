use Rattle.rv_diagram.specs.Growing.{Extends}
use Rattle.rv_refine.specs.Bounds.{IsTurn}
use Rattle.rv_refine.proofs.bounding.risen_in.Given as goal

abbrev pub invariant-loop-turn : goal.invariant-loop-turn
invariant-loop-turn l = record {
  extends : Extends l.fn.store l.store;
  turn : IsTurn l.store.nodes l.turn;
}
