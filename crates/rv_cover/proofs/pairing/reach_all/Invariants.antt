use Rattle.std.proofs.Common.{length, All}
use Rattle.rv_proofs.specs.Ranges.{IsRecord}
use Rattle.rv_cover.proofs.pairing.reach_all.Given as goal

abbrev pub invariant-loop-place : goal.invariant-loop-place
invariant-loop-place l = All (IsRecord (length l.rows)) l.reach
