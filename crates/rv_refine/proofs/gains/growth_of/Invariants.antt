use Rattle.std.proofs.Common.{◌≤◌, ◌^◌}
use Rattle.std.specs.Int.RustNames.{unsigned_abs}
use Rattle.rv_refine.proofs.gains.growth_of.Given as goal

abbrev pub invariant-loop-memory : goal.invariant-loop-memory
invariant-loop-memory l = unsigned_abs l.sum ≤ 2 ^ 20
