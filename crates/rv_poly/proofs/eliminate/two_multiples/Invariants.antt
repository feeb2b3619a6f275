use Rattle.std.proofs.Common.{◌≡◌, ℕ, ◌<◌, ◌+ℤ◌, ◌*ℤ◌, length}
use Rattle.rv_rows.specs.Forms.{number}
use Rattle.rv_poly.proofs.eliminate.two_multiples.Given as goal

abbrev pub invariant-loop-column : goal.invariant-loop-column
invariant-loop-column l = record {
  size : length l.sums ≡ l.column;
  numbers : (j : ℕ) → j < l.column → number j l.sums ≡ (l.by *ℤ number j l.first) +ℤ (l.with *ℤ number j l.second);
}
