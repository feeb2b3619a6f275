use Rattle.std.proofs.Common.{◌≡◌, ℕ, length, ◌<◌, ◌+◌}
use Rattle.rv_accept.specs.{Steps.AreRefs, Held.follow}
use Rattle.rv_accept.proofs.words.moved_nodes.Given as goal
use Rattle.rv_diagram.specs.{Nodes.value_of, Nodes.Valuation, Several.ref_at}
use Rattle.rv_diagram.specs.Growing.{Extends}

abbrev pub invariant-loop-i : goal.invariant-loop-i
invariant-loop-i l = record {
  extends : Extends l.initial.store l.store;
  size : length l.moved.items ≡ l.i;
  refs : AreRefs l.store l.moved.items;
  means : (n : ℕ) → n < l.i → (v : Valuation) → value_of l.store.nodes (ref_at l.moved.items n) v ≡ value_of l.nodes (n + 2) (follow l.initial.store l.next v);
}
