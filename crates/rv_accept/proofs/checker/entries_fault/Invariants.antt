use Rattle.std.proofs.Common.{◌≡◌, ℕ, ◌<◌, Some, slice_get}
use Rattle.rv_proofs.specs.{Systems.System, declared.certificate.Entry.Entry}
use Rattle.rv_accept.specs.{Held.IsWithin, Held.AreLedInto, Passing.IsGiven, Passing.Passes}
use Rattle.rv_accept.proofs.checker.entries_fault.Given as goal

abbrev pub invariant-loop-j : goal.invariant-loop-j
invariant-loop-j l = record {
  same : l.store ≡ l.initial.store;
  pass : (s : System) → IsGiven s l.initial.store l.parts l.questions l.certificate → IsWithin s l.location l.initial.store l.within
      → AreLedInto s l.certificate l.initial.store l.led → (i : ℕ) (e : Entry) → i < l.j → slice_get l.location.entries i ≡ Some e
      → Passes s l.certificate l.location e;
}
