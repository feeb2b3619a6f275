use Rattle.std.proofs.Common.{◌≡◌, ◌↔◌, true}
use Rattle.rv_diagram.specs.Nodes.{value_of, Valuation, IsRef}
use Rattle.rv_diagram.specs.Growing.{Extends}
use Rattle.rv_accept.proofs.Growing.{Some-below, Entered}
use Rattle.rv_accept.proofs.sets.entered.Given as goal

abbrev pub invariant-loop-k : goal.invariant-loop-k
invariant-loop-k l = record {
  extends : Extends l.initial.store l.store;
  found : IsRef l.store.nodes l.whole;
  means : (v : Valuation) → (value_of l.store.nodes l.whole v ≡ true) ↔ Some-below l.k (Entered l.locations v);
}
