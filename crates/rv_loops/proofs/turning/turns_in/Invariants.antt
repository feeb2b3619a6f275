use Rattle.std.proofs.Common.{◌≡◌}
use Rattle.rv_loops.proofs.turning.turns_in.Given as goal

abbrev pub invariant-loop-number : goal.invariant-loop-number
invariant-loop-number l = l.store ≡ l.initial.store
