use Rattle.std.proofs.Common.{◌≡◌, ℕ, ◌<◌, length}
use Rattle.rv_rise.specs.Limits.{limit_at}
use Rattle.rv_rise.proofs.rounds.first_limits.Given as goal

abbrev pub invariant-loop-place : goal.invariant-loop-place
invariant-loop-place l = record {
  size : length l.limits ≡ l.place;
  each : (k : ℕ) → k < l.place → limit_at l.limits k ≡ l.least;
}
