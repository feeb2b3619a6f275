use Rattle.std.proofs.Common.{◌≢◌, ℕ, ◌<◌}
use Rattle.rv_terms.specs.Parts.{part_at}
use Rattle.rv_terms.proofs.parted.place_of.Given as goal

abbrev pub invariant-loop-i : goal.invariant-loop-i
invariant-loop-i l = (k : ℕ) → k < l.i → (part_at l.parts k).form ≢ l.form
