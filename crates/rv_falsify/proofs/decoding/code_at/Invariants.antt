use Rattle.std.proofs.Common.{◌≡◌, ◌^◌, ◌<◌}
use Rattle.rv_meaning.specs.Codes.{code}
use Rattle.rv_falsify.specs.Decoding.{bit_behind}
use Rattle.rv_falsify.proofs.decoding.code_at.Given as goal

abbrev pub invariant-loop-bit : goal.invariant-loop-bit
invariant-loop-bit l = record {
  number : l.number ≡ code l.bit (bit_behind l.word l.first l.step);
  small : l.number < 2 ^ l.bit;
  place : l.place ≡ 2 ^ l.bit;
}
