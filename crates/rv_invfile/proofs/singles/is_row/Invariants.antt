use Rattle.std.proofs.Common.{◌≡◌, ◌<◌, ℕ, map, get_or, []}
use Rattle.rv_invfile.specs.Ahead.{here}
use Rattle.rv_invfile.proofs.singles.is_row.Given as goal

abbrev pub invariant-loop-index : goal.invariant-loop-index
invariant-loop-index l = (k : ℕ) → k < l.index → get_or (here l.records) k [] ≡ get_or (map (λ f. f.now) l.fields) k []
