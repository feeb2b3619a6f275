use Rattle.std.proofs.Common.{ℕ, ℤ, ◌<◌, List, length}
use Rattle.rv_rows.specs.Rows.{row_at, Holds}
use Rattle.rv_boxes.specs.Boxed.{IsBoxed, IsUncrossed}
use Rattle.rv_boxes.proofs.shut.shut_of.Given as goal

abbrev pub invariant-loop-premise : goal.invariant-loop-premise
invariant-loop-premise l = record {
  open' : IsUncrossed l.premises l.ends (length l.ends);
  each : (p : ℕ) → p < l.premise → (point : List ℤ) × IsBoxed (length l.ends) l.premises point × Holds (row_at l.premises p) point;
}
