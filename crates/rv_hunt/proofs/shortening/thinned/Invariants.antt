use Rattle.std.proofs.Common.{◌≡◌}
use Rattle.rv_hunt.proofs.shortening.thinned.Given as goal

abbrev pub invariant-loop-try : goal.invariant-loop-try
invariant-loop-try l = l.trace.starts ≡ l.initial.trace.starts
