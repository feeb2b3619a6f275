use Rattle.std.proofs.Common.{◌≤◌, ◌^◌}
use Rattle.std.specs.{List.AllWithin, Int.RustNames.unsigned_abs}
use Rattle.rv_poly.proofs.image.are_small.Given as goal

abbrev pub invariant-loop-number : goal.invariant-loop-number
invariant-loop-number l = AllWithin (λ c. unsigned_abs c ≤ 2 ^ 41) l.numbers 0 l.number-index
