use Rattle.std.proofs.Common.{◌≡◌, ◌≤◌, length, All}
use Rattle.rv_rows.specs.Tight.{Fits}
use Rattle.rv_proofs.specs.{Systems.System, Ranges.AreKept}
use Rattle.rv_cover.proofs.rows.chosen.Given as goal

abbrev pub invariant-loop-place : goal.invariant-loop-place
invariant-loop-place l = record {
  few : length l.list ≤ l.place;
  kept : (s : System) → AreKept s l.rows → All (λ r. (length r.coefficients ≡ s.memories) × Fits r) l.list;
}
