use Rattle.std.proofs.Common.{◌≡◌, ◌≤◌, ◌++◌, map, reverse, drop, length}
use Rattle.rv_calls.specs.Listing.{called_instance}
use Rattle.rv_calls.proofs.expansion.push_callees.Given as goal

abbrev pub invariant-loop-left : goal.invariant-loop-left
invariant-loop-left l = record {
  within : l.left ≤ length l.calls;
  pushed : l.waiting ≡ l.initial.waiting ++ reverse (map (called_instance l.path) (drop l.left l.calls));
}

abbrev pub decreases-loop-left : goal.decreases-loop-left
decreases-loop-left l = l.left
