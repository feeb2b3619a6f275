use Rattle.std.proofs.Common.{◌≡◌}
use Rattle.rv_hunt.proofs.shortening.gone_over.Given as goal

abbrev pub invariant-loop-half : goal.invariant-loop-half
invariant-loop-half l = l.trace.starts ≡ l.initial.trace.starts
