use Rattle.std.proofs.Common.{◌≡◌}
use Rattle.rv_paths.proofs.search.placed_among.Given as goal

abbrev pub invariant-loop-place : goal.invariant-loop-place
invariant-loop-place l = l.store ≡ l.initial.store
