use Rattle.std.proofs.Common.{◌≤◌, ◌^◌, ℤ, All}
use Rattle.std.specs.Int.RustNames.{unsigned_abs}
use Rattle.rv_refine.proofs.turning.extended.Given as goal

abbrev pub invariant-loop-column : goal.invariant-loop-column
invariant-loop-column l = All (λ (c : ℤ). unsigned_abs c ≤ 2 ^ 60) l.coefficients
