use Rattle.std.proofs.Common.{◌≡◌, ◌≤◌, ℕ, length, get_or}
use Rattle.std.specs.Prelude.{None as Nothing}
use Rattle.rv_forms.proofs.expressions.none_known.Given as goal

abbrev pub invariant-loop : goal.invariant-loop
invariant-loop l = record {
  many : length l.known ≡ l.counter;
  within : l.counter ≤ length l.flat.memories;
  none : (m : ℕ)
      → get_or l.known m Nothing ≡ Nothing;
}
