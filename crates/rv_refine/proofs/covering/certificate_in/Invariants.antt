use Rattle.std.proofs.Common.{◌≡◌}
use Rattle.rv_refine.proofs.covering.certificate_in.Given as goal

abbrev pub invariant-loop-place : goal.invariant-loop-place
invariant-loop-place l = l.store ≡ l.initial.store
