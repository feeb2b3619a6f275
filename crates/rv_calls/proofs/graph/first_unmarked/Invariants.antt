use Rattle.std.proofs.Common.{ℕ, length, ◌-◌, ◌≡◌, ◌<◌, ◌≤◌, true, false, slice_index_or}
use Rattle.rv_calls.proofs.graph.first_unmarked.Given as goal

abbrev pub invariant-loop-k : goal.invariant-loop-k
invariant-loop-k l = record {
  from_start : l.start ≤ l.k;
  marked : (j : ℕ) → l.start ≤ j → j < l.k → slice_index_or l.marked (slice_index_or l.targets j 0) false ≡ true;
}

abbrev pub decreases-loop-k : goal.decreases-loop-k
decreases-loop-k l = length l.targets - l.k
