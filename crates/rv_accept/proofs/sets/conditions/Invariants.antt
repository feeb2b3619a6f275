use Rattle.std.proofs.Common.{◌≡◌, ◌↔◌, true}
use Rattle.rv_diagram.specs.Nodes.{value_of, Valuation, IsRef}
use Rattle.rv_diagram.specs.Growing.{Extends}
use Rattle.rv_accept.proofs.Growing.{Some-below, Met}
use Rattle.rv_accept.proofs.sets.conditions.Given as goal

abbrev pub invariant-loop-j : goal.invariant-loop-j
invariant-loop-j l = record {
  extends : Extends l.initial.store l.store;
  found : IsRef l.store.nodes l.whole;
  means : (v : Valuation) → (value_of l.store.nodes l.whole v ≡ true) ↔ Some-below l.j (Met l.entries v);
}
