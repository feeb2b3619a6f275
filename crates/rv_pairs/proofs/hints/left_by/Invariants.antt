use Rattle.std.proofs.Common.{◌≡◌, ◌↔◌, true, take}
use Rattle.rv_diagram.specs.{Nodes.Valuation, Nodes.IsRef, Nodes.value_of, Growing.Extends}
use Rattle.rv_pairs.specs.Hints.{IsHinted}
use Rattle.rv_pairs.proofs.hints.left_by.Given as goal

abbrev pub invariant-loop-place : goal.invariant-loop-place
invariant-loop-place l = record {
  extends : Extends l.fn.store l.store;
  found : IsRef l.store.nodes l.rest;
  exact : (v : Valuation) → (value_of l.store.nodes l.rest v ≡ true)
      ↔ ((value_of l.fn.store.nodes l.fn.inside v ≡ true) × ¬ IsHinted l.fn.store.nodes (take l.place l.hints) v l.bound);
}
