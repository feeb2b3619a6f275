use Rattle.std.proofs.Common.{◌≡◌}
use Rattle.rv_proofs.specs.Systems.{System}
use Rattle.rv_accept.specs.{Held.AreLedInto, Passing.IsGiven, Judging.AreLocated}
use Rattle.rv_accept.proofs.judging.left_among.Given as goal

abbrev pub invariant-loop-k : goal.invariant-loop-k
invariant-loop-k l = record {
  same : l.store ≡ l.initial.store;
  located : (s : System) → IsGiven s l.initial.store l.parts l.questions l.certificate → AreLedInto s l.certificate l.initial.store l.led
      → AreLocated s l.certificate l.k l.left;
}
