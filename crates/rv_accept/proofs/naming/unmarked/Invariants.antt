use Rattle.std.proofs.Common.{◌≡◌, ℕ, false, length}
use Rattle.rv_accept.specs.Needs.{flag_at}
use Rattle.rv_accept.proofs.naming.unmarked.Given as goal

abbrev pub invariant-loop : goal.invariant-loop
invariant-loop l = record {
  size : length l.flags.items ≡ l.counter;
  none : (t : ℕ) → flag_at l.flags.items t ≡ false;
}
