use Rattle.std.proofs.Common.{◌≡◌, ◌<◌, ℕ, ◌*ℤ◌}
use Rattle.rv_rows.specs.{Rows.coefficient, Multipliers.weighted}
use Rattle.rv_rows.proofs.farkas.same_sides.Given as goal

abbrev pub invariant-loop-column : goal.invariant-loop-column
invariant-loop-column l = (k : ℕ) → k < l.column → weighted (coefficient k) l.premises l.multipliers.weights ≡ l.multipliers.divisor *ℤ coefficient k l.wanted
