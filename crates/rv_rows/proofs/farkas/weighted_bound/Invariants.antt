use Rattle.std.proofs.Common.{◌≡◌, ◌≤◌, ◌*◌, ◌^◌, ◌+ℤ◌, drop}
use Rattle.std.specs.Int.RustNames.{unsigned_abs}
use Rattle.rv_rows.specs.Multipliers.{weighted}
use Rattle.rv_rows.proofs.farkas.weighted_bound.Given as goal

abbrev pub invariant-loop-pair : goal.invariant-loop-pair
invariant-loop-pair l = record {
  value : l.sum +ℤ weighted (λ r. r.bound) l.premises (drop l.pair-index l.weights) ≡ weighted (λ r. r.bound) l.premises l.weights;
  bound : unsigned_abs l.sum ≤ l.pair-index * 2 ^ 101;
}
