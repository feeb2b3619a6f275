use Rattle.std.proofs.Common.{◌≢◌, ℕ, ◌<◌}
use Rattle.rv_rows.specs.Rows.{row_at}
use Rattle.rv_tested.proofs.rows.place_of.Given as goal

abbrev pub invariant-loop-i : goal.invariant-loop-i
invariant-loop-i l = (k : ℕ) → k < l.i → row_at l.rows k ≢ l.row
