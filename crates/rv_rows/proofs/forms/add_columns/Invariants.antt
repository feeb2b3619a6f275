use Rattle.std.proofs.Common.{◌≡◌, ◌<◌, ℕ, length, ◌+ℤ◌}
use Rattle.rv_rows.specs.Forms.{number}
use Rattle.rv_rows.proofs.forms.add_columns.Given as goal

abbrev pub invariant-loop-column : goal.invariant-loop-column
invariant-loop-column l = record {
  width : length l.sums ≡ l.column;
  done : (k : ℕ) → k < l.column → number k l.sums ≡ number k l.a +ℤ number k l.b;
}
