use Rattle.std.proofs.Common.{◌≡◌, ℕ, ◌<◌, ◌≤◌, pos}
use Rattle.rv_rows.specs.Rows.{coefficient}
use Rattle.rv_cover.proofs.rows.is_zero_from.Given as goal

abbrev pub invariant-loop-column : goal.invariant-loop-column
invariant-loop-column l = (n : ℕ) → l.first ≤ n → n < l.column → coefficient n l.row ≡ pos 0
