use Rattle.std.proofs.Common.{◌≡◌}
use Rattle.rv_paths.proofs.search.end_at.Given as goal

abbrev pub invariant-loop-case : goal.invariant-loop-case
invariant-loop-case l = l.store ≡ l.initial.store
