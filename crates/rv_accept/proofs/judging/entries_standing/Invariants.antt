use Rattle.std.proofs.Common.{◌≡◌}
use Rattle.rv_proofs.specs.Systems.{System}
use Rattle.rv_accept.specs.{Held.IsWithin, Held.AreLedInto, Passing.IsGiven, Judging.AreStanding}
use Rattle.rv_accept.proofs.judging.entries_standing.Given as goal

abbrev pub invariant-loop-j : goal.invariant-loop-j
invariant-loop-j l = record {
  same : l.store ≡ l.initial.store;
  standing : (s : System) → IsGiven s l.initial.store l.parts l.questions l.certificate → IsWithin s l.location l.initial.store l.within
      → AreLedInto s l.certificate l.initial.store l.led → AreStanding s l.certificate l.location l.j l.worst;
}
