use Rattle.std.proofs.Common.{◌≡◌, ◌-◌, ◌/◌, ◌^◌, nat_le}
use Rattle.rv_meaning.specs.Codes.{code}
use Rattle.rv_symbolic.specs.Growing.{Makes}
use Rattle.rv_bits.specs.Bits.{bit, bit_of}
use Rattle.rv_bits.proofs.bits.names_label.Given as goal

abbrev pub invariant-loop-number : goal.invariant-loop-number
invariant-loop-number l = record {
  made : Makes l.initial.store l.store (λ v. nat_le (code l.number (bit l.initial.store.nodes l.bits v)) (code l.number (bit_of (l.labels - 1)))) l.within;
  rest : l.rest ≡ (l.labels - 1) / 2 ^ l.number;
}
