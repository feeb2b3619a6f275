use Rattle.std.proofs.Common.{◌≡◌, ℕ, length}
use Rattle.rv_boxes.specs.Ends.{end_at, no_end}
use Rattle.rv_boxes.proofs.ends.no_ends.Given as goal

abbrev pub invariant-loop-column : goal.invariant-loop-column
invariant-loop-column l = record {
  size : length l.ends ≡ l.column;
  none : (k : ℕ) → end_at l.ends k ≡ no_end;
}
