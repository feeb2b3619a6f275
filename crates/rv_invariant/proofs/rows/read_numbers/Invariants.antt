use Rattle.std.proofs.Common.{◌≡◌, ◌+◌, ◌<◌, ℕ, true, length}
use Rattle.rv_invfile.specs.Ahead.{here}
use Rattle.rv_invariant.specs.{Groups.upto, Pieces.coefficient_at, Pieces.is_row_field}
use Rattle.rv_invariant.proofs.rows.read_numbers.Given as goal

abbrev pub invariant-loop-index : goal.invariant-loop-index
invariant-loop-index l = record {
  size : length l.coefficients ≡ l.index;
  read : l.coefficients ≡ upto coefficient_at (here l.records) (length l.coefficients);
  right : (k : ℕ) → k < length l.coefficients + 2 → is_row_field (here l.records) k ≡ true;
}
