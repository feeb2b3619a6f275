use Rattle.std.proofs.Common.{◌≡◌, ◌<◌, ◌+◌, ℕ, List, map, get_or, []}
use Rattle.rv_invfile.specs.Ahead.{here}
use Rattle.rv_invariant.proofs.naming.are_texts.Given as goal

abbrev pub invariant-loop-index : goal.invariant-loop-index
invariant-loop-index l = (k : ℕ) → k < l.index → get_or (here l.records) (k + 1) [] ≡ get_or (map (λ (t : List ℕ). t) l.names) k []
