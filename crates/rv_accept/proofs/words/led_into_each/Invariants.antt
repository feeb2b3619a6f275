use Rattle.std.proofs.Common.{◌≡◌, ℕ, length, ◌<◌, Some, slice_get}
use Rattle.rv_diagram.specs.{Nodes.value_of, Nodes.Valuation, Several.ref_at}
use Rattle.rv_diagram.specs.Growing.{Extends}
use Rattle.rv_proofs.specs.declared.certificate.Location.{Location}
use Rattle.rv_accept.specs.{Steps.AreRefs, Steps.has, Held.follow}
use Rattle.rv_accept.proofs.words.led_into_each.Given as goal

abbrev pub invariant-loop-k : goal.invariant-loop-k
invariant-loop-k l = record {
  extends : Extends l.initial.store l.store;
  size : length l.led.items ≡ l.k;
  refs : AreRefs l.store l.led.items;
  means : (n : ℕ) (x : Location) → n < l.k → slice_get l.certificate.locations n ≡ Some x → (v : Valuation)
      → value_of l.store.nodes (ref_at l.led.items n) v ≡ has x.control (follow l.initial.store l.parts.next v);
}
