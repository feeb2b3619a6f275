use Rattle.std.proofs.Common.{◌≡◌}
use Rattle.rv_cover.proofs.needing.mark_rest.Given as goal

abbrev pub invariant-loop-turn : goal.invariant-loop-turn
invariant-loop-turn l = l.store ≡ l.initial.store
