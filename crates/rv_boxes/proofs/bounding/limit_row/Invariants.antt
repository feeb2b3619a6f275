use Rattle.std.proofs.Common.{◌≡◌, ◌≢◌, ℕ, ◌<◌, pos, length}
use Rattle.rv_rows.specs.Forms.{number}
use Rattle.rv_boxes.proofs.bounding.limit_row.Given as goal

abbrev pub invariant-loop-column : goal.invariant-loop-column
invariant-loop-column l = record {
  size : length l.coefficients ≡ l.column;
  here : (k : ℕ) → k < l.column → k ≡ l.memory → number k l.coefficients ≡ l.sign;
  other : (k : ℕ) → k < l.column → k ≢ l.memory → number k l.coefficients ≡ pos 0;
}
