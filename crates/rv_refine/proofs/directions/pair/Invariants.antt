use Rattle.std.proofs.Common.{◌≡◌, ◌≤◌, ◌^◌, ℤ, All, length}
use Rattle.std.specs.Int.RustNames.{unsigned_abs}
use Rattle.rv_refine.proofs.directions.pair.Given as goal

abbrev pub invariant-loop-column : goal.invariant-loop-column
invariant-loop-column l = record {
  size : length l.coefficients ≡ l.column;
  numbers : All (λ (c : ℤ). unsigned_abs c ≤ 2 ^ 20) l.coefficients;
}
