use Rattle.std.proofs.Common.{◌≡◌, ℕ, ◌<◌, Some, slice_get}
use Rattle.rv_proofs.specs.{Systems.System, declared.certificate.Location.Location}
use Rattle.rv_accept.specs.{Held.AreLedInto, Passing.IsGiven, Passing.AllPass}
use Rattle.rv_accept.proofs.checker.locations_fault.Given as goal

abbrev pub invariant-loop-k : goal.invariant-loop-k
invariant-loop-k l = record {
  same : l.store ≡ l.initial.store;
  pass : (s : System) → IsGiven s l.initial.store l.parts l.questions l.certificate → AreLedInto s l.certificate l.initial.store l.led
      → (i : ℕ) (x : Location) → i < l.k → slice_get l.certificate.locations i ≡ Some x → AllPass s l.certificate x;
}
