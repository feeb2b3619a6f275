use Rattle.std.proofs.Common.{◌≡◌, ℕ, length}
use Rattle.rv_rows.specs.Rows.{row_at}
use Rattle.rv_boxes.specs.Built.{nothing}
use Rattle.rv_boxes.proofs.premises.zero_rows.Given as goal

abbrev pub invariant-loop-place : goal.invariant-loop-place
invariant-loop-place l = record {
  size : length l.rows.items ≡ l.place;
  zero : (k : ℕ) → row_at l.rows.items k ≡ nothing;
}
