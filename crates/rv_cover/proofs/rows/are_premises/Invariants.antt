use Rattle.std.proofs.Common.{ℕ, ◌<◌}
use Rattle.rv_rows.specs.Rows.{row_at}
use Rattle.rv_cover.specs.Premises.{IsPremise}
use Rattle.rv_cover.proofs.rows.are_premises.Given as goal

abbrev pub invariant-loop-place : goal.invariant-loop-place
invariant-loop-place l = (p : ℕ) → p < l.place → IsPremise l.columns (row_at l.premises p)
