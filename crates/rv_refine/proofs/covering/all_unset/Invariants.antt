use Rattle.std.proofs.Common.{◌≡◌, length}
use Rattle.rv_refine.proofs.covering.all_unset.Given as goal

abbrev pub invariant-loop-place : goal.invariant-loop-place
invariant-loop-place l = length l.all ≡ l.place
