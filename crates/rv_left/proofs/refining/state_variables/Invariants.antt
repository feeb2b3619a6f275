use Rattle.std.proofs.Common.{◌≡◌, ◌*◌, ◌<◌, ℕ, length, get_or}
use Rattle.rv_left.proofs.refining.state_variables.Given as goal

abbrev pub invariant-loop-i : goal.invariant-loop-i
invariant-loop-i l = record {
  size : length l.state ≡ l.i;
  each : (j : ℕ) → j < l.i → get_or l.state j 0 ≡ 2 * j;
}
