use Rattle.std.proofs.Common.{◌≡◌, ℕ, ◌<◌, ◌≤◌, ◌^◌, ◌*ℤ◌, negsuc, length, All}
use Rattle.std.specs.Int.RustNames.{unsigned_abs}
use Rattle.rv_rows.specs.Forms.{number}
use Rattle.rv_boxes.proofs.shut.negated.Given as goal

abbrev pub invariant-loop-column : goal.invariant-loop-column
invariant-loop-column l = record {
  size : length l.list ≡ l.column;
  each : (k : ℕ) → k < l.column → number k l.list ≡ negsuc 0 *ℤ number k l.numbers;
  sizes : All (λ c. unsigned_abs c ≤ 2 ^ 41) l.list;
}
