use Rattle.std.proofs.Common.{◌≤◌, ◌<◌, ◌^◌}
use Rattle.std.specs.{List.AllWithin, Int.RustNames.unsigned_abs}
use Rattle.rv_tests.proofs.limits.are_weights_within.Given as goal

abbrev pub invariant-loop-weight : goal.invariant-loop-weight
invariant-loop-weight l = record {
  range : AllWithin (λ w. w.premise < l.count) l.weights 0 l.weight-index;
  small : AllWithin (λ w. unsigned_abs w.by ≤ 2 ^ 41) l.weights 0 l.weight-index;
}
