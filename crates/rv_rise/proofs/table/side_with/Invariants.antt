use Rattle.std.proofs.Common.{◌≡◌, ◌≢◌, ℕ, ◌<◌, pos, length}
use Rattle.rv_rows.specs.Forms.{number}
use Rattle.rv_rise.proofs.table.side_with.Given as goal

abbrev pub invariant-loop-column : goal.invariant-loop-column
invariant-loop-column l = record {
  size : length l.coefficients ≡ l.column;
  last : (n : ℕ) → n < l.column → n ≡ l.second → number n l.coefficients ≡ l.other;
  start : (n : ℕ) → n < l.column → n ≢ l.second → n ≡ l.first → number n l.coefficients ≡ l.one;
  none : (n : ℕ) → n < l.column → n ≢ l.second → n ≢ l.first → number n l.coefficients ≡ pos 0;
}
