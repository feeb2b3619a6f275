use Rattle.std.proofs.Common.{◌≤◌}
use Rattle.std.specs.{List.AllWithin, Int.RustNames.unsigned_abs}
use Rattle.rv_tests.proofs.limits.are_small.Given as goal

abbrev pub invariant-loop-number : goal.invariant-loop-number
invariant-loop-number l = AllWithin (λ c. unsigned_abs c ≤ l.most) l.numbers 0 l.number-index
