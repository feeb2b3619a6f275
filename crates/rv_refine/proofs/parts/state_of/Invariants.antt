use Rattle.rv_diagram.specs.{Nodes.IsRef, Growing.Extends}
use Rattle.rv_refine.proofs.parts.state_of.Given as goal

abbrev pub invariant-loop-back : goal.invariant-loop-back
invariant-loop-back l = record {
  extends : Extends l.fn.store l.store;
  found : IsRef l.store.nodes l.state;
}
