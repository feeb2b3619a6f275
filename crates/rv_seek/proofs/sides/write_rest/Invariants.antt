use Rattle.std.proofs.Common.{◌≡◌, ◌<◌, ℕ, length, ◌-ℤ◌}
use Rattle.rv_rows.specs.{Rows.coefficient, Rows.row_at, Forms.number}
use Rattle.rv_seek.proofs.sides.write_rest.Given as goal

abbrev pub invariant-loop-column : goal.invariant-loop-column
invariant-loop-column l = record {
  width : length l.rest.items ≡ l.column;
  done : (k : ℕ) → k < l.column → number k l.rest.items ≡ number k l.wanted -ℤ coefficient k (row_at l.premises l.place);
}
