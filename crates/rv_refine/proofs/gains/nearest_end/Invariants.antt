use Rattle.std.proofs.Common.{◌≤◌, ◌^◌, ℤ, IfSome}
use Rattle.std.specs.Int.RustNames.{unsigned_abs}
use Rattle.rv_refine.proofs.gains.nearest_end.Given as goal

abbrev pub invariant-loop-place : goal.invariant-loop-place
invariant-loop-place l = IfSome l.found (λ (b : ℤ). unsigned_abs b ≤ 2 ^ 20)
