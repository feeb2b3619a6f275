use Rattle.rv_accept.specs.Needs.{IsMarked, Names}
use Rattle.rv_accept.proofs.Marking.{SomeBefore}
use Rattle.rv_accept.proofs.naming.mark_all_weights.Given as goal

abbrev pub invariant-loop-i : goal.invariant-loop-i
invariant-loop-i l = IsMarked (λ t. SomeBefore (λ m. Names l.given m t) l.by l.i) l.initial.flags l.flags
