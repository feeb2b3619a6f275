use Rattle.std.proofs.Common.{◌≡◌, ◌≤◌, ◌*◌, ◌^◌, ◌+ℤ◌, drop}
use Rattle.std.specs.Int.RustNames.{unsigned_abs}
use Rattle.rv_rows.specs.{Rows.coefficient, Multipliers.weighted}
use Rattle.rv_rows.proofs.farkas.weighted_coefficient.Given as goal

abbrev pub invariant-loop-weight : goal.invariant-loop-weight
invariant-loop-weight l = record {
  value : l.sum +ℤ weighted (coefficient l.column) l.premises (drop l.weight-index l.weights) ≡ weighted (coefficient l.column) l.premises l.weights;
  bound : unsigned_abs l.sum ≤ l.weight-index * 2 ^ 101;
}
