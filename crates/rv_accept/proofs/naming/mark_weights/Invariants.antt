use Rattle.std.proofs.Common.{◌≡◌, ◌+◌}
use Rattle.rv_rows.specs.declared.farkas.Weight.{Weight}
use Rattle.rv_accept.specs.Needs.{IsMarked}
use Rattle.rv_accept.proofs.Marking.{SomeBefore}
use Rattle.rv_accept.proofs.naming.mark_weights.Given as goal

abbrev pub invariant-loop-i : goal.invariant-loop-i
invariant-loop-i l = IsMarked (λ t. SomeBefore (λ (w : Weight). w.premise ≡ l.given + t) l.by.weights l.i) l.initial.flags l.flags
