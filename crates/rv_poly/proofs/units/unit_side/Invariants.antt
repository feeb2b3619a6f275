use Rattle.std.proofs.Common.{◌≡◌, ℕ, ◌<◌, length}
use Rattle.rv_rows.specs.Forms.{number}
use Rattle.rv_poly.specs.Closing.{unit_number}
use Rattle.rv_poly.proofs.units.unit_side.Given as goal

abbrev pub invariant-loop-column : goal.invariant-loop-column
invariant-loop-column l = record {
  size : length l.side ≡ l.column;
  numbers : (k : ℕ) → k < l.column → number k l.side ≡ unit_number l.first l.by l.second l.other k;
}
