use Rattle.std.proofs.Common.{◌≡◌, ℕ, ◌<◌, length}
use Rattle.rv_boxes.specs.Limits.{limit_at}
use Rattle.rv_boxes.proofs.claim.first_limits.Given as goal

abbrev pub invariant-loop-memory : goal.invariant-loop-memory
invariant-loop-memory l = record {
  size : length l.limits ≡ l.memory;
  each : (k : ℕ) → k < l.memory → limit_at l.limits k ≡ l.least;
}
