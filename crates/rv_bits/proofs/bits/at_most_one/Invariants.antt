use Rattle.rv_bits.specs.Bits.{bit, count_true, AreCounted}
use Rattle.rv_bits.proofs.bits.at_most_one.Given as goal

abbrev pub invariant-loop-number : goal.invariant-loop-number
invariant-loop-number l = record {
  counted : AreCounted l.initial.store l.store (λ v. count_true l.number (bit l.initial.store.nodes l.refs v)) l.counted.none l.counted.most;
}
