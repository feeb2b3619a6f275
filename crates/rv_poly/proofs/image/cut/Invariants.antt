use Rattle.std.proofs.Common.{◌≡◌, ℕ, ◌<◌, length}
use Rattle.rv_rows.specs.Forms.{number}
use Rattle.rv_poly.proofs.image.cut.Given as goal

abbrev pub invariant-loop-column : goal.invariant-loop-column
invariant-loop-column l = record {
  size : length l.coefficients ≡ l.column;
  numbers : (k : ℕ) → k < l.column → number k l.coefficients ≡ number k l.row.coefficients;
}
