use Rattle.std.proofs.Common.{◌≡◌, ℕ, ◌<◌, [], length, get_or}
use Rattle.rv_calls.specs.Listing.{AreSorted}
use Rattle.rv_calls.proofs.expansion.sorted_calls.Given as goal

abbrev pub invariant-loop-of_node : goal.invariant-loop-of_node
invariant-loop-of_node l = record {
  size : length l.all ≡ l.of_node-index;
  each : (k : ℕ) → k < l.of_node-index → AreSorted (get_or l.calls k []) (get_or l.all k []);
}
