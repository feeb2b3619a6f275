use Rattle.std.proofs.Common.{◌≡◌, ℕ, ◌<◌, ◌≤◌, pos}
use Rattle.rv_rows.specs.Forms.{number}
use Rattle.rv_poly.proofs.moving.is_narrow.Given as goal

abbrev pub invariant-loop-column : goal.invariant-loop-column
invariant-loop-column l = (k : ℕ) → k < l.column → l.width ≤ k → number k l.row.coefficients ≡ pos 0
