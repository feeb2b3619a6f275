use Rattle.rv_symbolic.specs.Growing.{Makes}
use Rattle.rv_bits.specs.Bits.{bit, are_same}
use Rattle.rv_bits.proofs.bits.all_equal.Given as goal

abbrev pub invariant-loop-number : goal.invariant-loop-number
invariant-loop-number l = record {
  made : Makes l.initial.store l.store (λ v. are_same l.number (bit l.initial.store.nodes l.left v) (bit l.initial.store.nodes l.right v)) l.same;
}
