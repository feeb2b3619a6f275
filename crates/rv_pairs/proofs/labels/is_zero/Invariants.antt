use Rattle.std.proofs.Common.{◌≡◌, ◌<◌, ℕ, pos}
use Rattle.rv_rows.specs.Rows.{coefficient}
use Rattle.rv_pairs.proofs.labels.is_zero.Given as goal

abbrev pub invariant-loop-column : goal.invariant-loop-column
invariant-loop-column l = (k : ℕ) → k < l.column → coefficient k l.row ≡ pos 0
