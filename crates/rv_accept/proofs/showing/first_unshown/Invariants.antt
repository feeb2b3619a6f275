use Rattle.rv_proofs.specs.Scopes.{after}
use Rattle.rv_accept.specs.Passing.{AreShown}
use Rattle.rv_accept.proofs.showing.first_unshown.Given as goal

abbrev pub invariant-loop-row : goal.invariant-loop-row
invariant-loop-row l = AreShown after l.premises l.updates l.wanted l.by l.row
