use Rattle.rv_bits.specs.{Following.AreNextRead, Shown.IsAround}
use Rattle.rv_bits.proofs.following.read_next.Given as goal

abbrev pub invariant-loop-bit : goal.invariant-loop-bit
invariant-loop-bit l = record {
  read : AreNextRead l.around.flat.now l.initial.store l.store l.bit l.next;
  around : IsAround l.store l.around;
}
