use Rattle.std.proofs.Common.{◌≡◌, ℕ, ◌/◌, ◌^◌, ◌<◌, length}
use Rattle.rv_diagram.specs.Nodes.{Valuation}
use Rattle.rv_symbolic.specs.Linked.{AreRefs}
use Rattle.rv_bits.specs.Bits.{bit, bit_of}
use Rattle.rv_bits.proofs.bits.bits_of.Given as goal

abbrev pub invariant-loop-rest : goal.invariant-loop-rest
invariant-loop-rest l = record {
  found : AreRefs l.store.nodes l.refs;
  rest : l.rest ≡ l.number / 2 ^ length l.refs;
  means : (b : ℕ) (v : Valuation) → b < length l.refs → bit l.store.nodes l.refs v b ≡ bit_of l.number b;
}

abbrev pub decreases-loop-rest : goal.decreases-loop-rest
decreases-loop-rest l = l.rest
