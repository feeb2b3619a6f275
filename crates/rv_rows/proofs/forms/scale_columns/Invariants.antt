use Rattle.std.proofs.Common.{◌≡◌, ◌<◌, ℕ, length, ◌*ℤ◌}
use Rattle.rv_rows.specs.Forms.{number}
use Rattle.rv_rows.proofs.forms.scale_columns.Given as goal

abbrev pub invariant-loop-column : goal.invariant-loop-column
invariant-loop-column l = record {
  width : length l.products ≡ l.column;
  done : (k : ℕ) → k < l.column → number k l.products ≡ l.by *ℤ number k l.a;
}
