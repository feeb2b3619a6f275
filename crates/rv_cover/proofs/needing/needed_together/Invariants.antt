use Rattle.std.proofs.Common.{◌≡◌}
use Rattle.rv_cover.proofs.needing.needed_together.Given as goal

abbrev pub invariant-loop-try : goal.invariant-loop-try
invariant-loop-try l = l.store ≡ l.initial.store
