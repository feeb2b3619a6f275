use Rattle.std.proofs.Common.{◌≡◌, ℕ, ◌<◌, length, map}
use Rattle.rv_diagram.specs.Nodes.{Valuation}
use Rattle.rv_diagram.specs.Growing.{Extends}
use Rattle.rv_flat.specs.Lists.{variable_of}
use Rattle.rv_control.specs.Named.{truth_at}
use Rattle.rv_symbolic.specs.Linked.{AreRefs}
use Rattle.rv_bits.specs.{Bits.bit, Names.owned}
use Rattle.rv_bits.proofs.names.owned_bits.Given as goal

abbrev pub invariant-loop-number : goal.invariant-loop-number
invariant-loop-number l = record {
  extends : Extends l.initial.store l.store;
  size : length l.refs ≡ l.number;
  found : AreRefs l.store.nodes l.refs;
  means : (b : ℕ) (v : Valuation) → b < l.number → bit l.store.nodes l.refs v b ≡ truth_at (map variable_of l.variables) v (owned l.owner b);
}
