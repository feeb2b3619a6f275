use Rattle.std.proofs.Common.{◌≡◌, ◌≤◌, ℕ, length, get_or}
use Rattle.std.specs.Prelude.{None as Nothing}
use Rattle.rv_bits.proofs.whole.none_shown.Given as goal

abbrev pub invariant-loop : goal.invariant-loop
invariant-loop l = record {
  many : length l.shown ≡ l.counter;
  within : l.counter ≤ length l.flat.memories;
  none : (m : ℕ)
      → get_or l.shown m Nothing ≡ Nothing;
}
