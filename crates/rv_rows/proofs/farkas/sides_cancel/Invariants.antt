use Rattle.std.proofs.Common.{◌≡◌, ◌<◌, ℕ, pos}
use Rattle.rv_rows.specs.{Rows.coefficient, Multipliers.weighted}
use Rattle.rv_rows.proofs.farkas.sides_cancel.Given as goal

abbrev pub invariant-loop-column : goal.invariant-loop-column
invariant-loop-column l = (k : ℕ) → k < l.column → weighted (coefficient k) l.premises l.weights ≡ pos 0
