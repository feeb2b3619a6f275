use Rattle.std.proofs.Common.{◌≡◌, ℕ, ◌<◌, pos}
use Rattle.rv_rows.specs.Rows.{coefficient}
use Rattle.rv_cover.proofs.rows.only_column.Given as goal

abbrev pub invariant-loop-column : goal.invariant-loop-column
invariant-loop-column l = (n : ℕ) → n < l.column → coefficient n l.row ≡ pos 0
