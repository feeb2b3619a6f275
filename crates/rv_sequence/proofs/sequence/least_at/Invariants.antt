use Rattle.std.proofs.Common.{ℕ, ◌<◌, ◌≤◌, ◌-◌, length, get_or}
use Rattle.rv_sequence.proofs.sequence.least_at.Given as goal

abbrev pub invariant-loop-next : goal.invariant-loop-next
invariant-loop-next l = record {
  within : l.least < length l.numbers;
  bound : l.next ≤ length l.numbers;
  smallest : (j : ℕ) → j < l.next → get_or l.numbers l.least 0 ≤ get_or l.numbers j 0;
}

abbrev pub decreases-loop-next : goal.decreases-loop-next
decreases-loop-next l = length l.numbers - l.next
