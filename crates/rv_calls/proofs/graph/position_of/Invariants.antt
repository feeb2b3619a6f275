use Rattle.std.proofs.Common.{ℕ, length, ◌-◌, ◌≡◌, ◌<◌, slice_index_or}
use Rattle.rv_calls.proofs.graph.position_of.Given as goal

abbrev pub invariant-loop-k : goal.invariant-loop-k
invariant-loop-k l = (j : ℕ) → j < l.k → slice_index_or l.path j 0 ≡ l.v → ⊥

abbrev pub decreases-loop-k : goal.decreases-loop-k
decreases-loop-k l = length l.path - l.k
