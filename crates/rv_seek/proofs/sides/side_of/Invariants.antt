use Rattle.std.proofs.Common.{◌≡◌, ◌<◌, ℕ, length}
use Rattle.rv_rows.specs.{Rows.coefficient, Rows.row_at, Forms.number}
use Rattle.rv_seek.proofs.sides.side_of.Given as goal

abbrev pub invariant-loop-column : goal.invariant-loop-column
invariant-loop-column l = record {
  width : length l.side.items ≡ l.column;
  done : (k : ℕ) → k < l.column → number k l.side.items ≡ coefficient k (row_at l.premises l.place);
}
