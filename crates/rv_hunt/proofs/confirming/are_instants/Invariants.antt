use Rattle.std.proofs.Common.{ℕ, ◌<◌, [], get_or}
use Rattle.rv_flat.specs.Steps.{AreValues}
use Rattle.rv_hunt.proofs.confirming.are_instants.Given as goal

abbrev pub invariant-loop-place : goal.invariant-loop-place
invariant-loop-place l = (k : ℕ) → k < l.place → AreValues l.flat l.kinds (get_or l.instants k [])
