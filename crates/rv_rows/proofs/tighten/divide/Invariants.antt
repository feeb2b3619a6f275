use Rattle.std.proofs.Common.{◌≡◌, ◌≤◌, ◌<◌, ℕ, length, pos, ◌*ℤ◌}
use Rattle.rv_rows.specs.Rows.{coefficient}
use Rattle.rv_rows.proofs.tighten.divide.Given as goal

abbrev pub invariant-loop-column : goal.invariant-loop-column
invariant-loop-column l = record {
  width : length l.row.coefficients ≡ length l.initial.row.coefficients;
  done : (k : ℕ) → k < l.column → coefficient k l.initial.row ≡ pos l.by *ℤ coefficient k l.row;
  left : (k : ℕ) → l.column ≤ k → coefficient k l.initial.row ≡ coefficient k l.row;
  bound : l.row.bound ≡ l.initial.row.bound;
}
