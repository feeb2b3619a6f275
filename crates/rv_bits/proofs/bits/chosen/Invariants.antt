use Rattle.std.proofs.Common.{◌≡◌, ℕ, ◌<◌, cond, length}
use Rattle.rv_diagram.specs.Nodes.{Valuation, value_of}
use Rattle.rv_diagram.specs.Growing.{Extends}
use Rattle.rv_symbolic.specs.Linked.{AreRefs}
use Rattle.rv_bits.specs.Bits.{bit}
use Rattle.rv_bits.proofs.bits.chosen.Given as goal

abbrev pub invariant-loop-number : goal.invariant-loop-number
invariant-loop-number l = record {
  extends : Extends l.initial.store l.store;
  size : length l.refs ≡ l.number;
  found : AreRefs l.store.nodes l.refs;
  means : (b : ℕ) (v : Valuation) → b < l.number
      → bit l.store.nodes l.refs v b ≡ cond (value_of l.initial.store.nodes l.condition v) (bit l.initial.store.nodes l.first v b)
      (bit l.initial.store.nodes l.second v b);
}
