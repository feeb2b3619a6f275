use Rattle.std.proofs.Common.{◌≢◌, pos}
use Rattle.rv_rows.specs.Rows.{coefficient}
use Rattle.rv_accept.specs.Needs.{IsMarked}
use Rattle.rv_accept.proofs.Marking.{SomeBefore}
use Rattle.rv_accept.proofs.naming.mark_rows.Given as goal

abbrev pub invariant-loop-i : goal.invariant-loop-i
invariant-loop-i l = IsMarked (λ k. SomeBefore (λ r. coefficient k r ≢ pos 0) l.rows l.i) l.initial.flags l.flags
