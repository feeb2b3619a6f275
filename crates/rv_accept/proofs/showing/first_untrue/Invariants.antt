use Rattle.std.proofs.Common.{List}
use Rattle.rv_rows.specs.declared.linear.Form.{Form}
use Rattle.rv_proofs.specs.Scopes.{before}
use Rattle.rv_accept.specs.Passing.{AreShown}
use Rattle.rv_accept.proofs.showing.first_untrue.Given as goal

abbrev pub invariant-loop-row : goal.invariant-loop-row
invariant-loop-row l = (updates : List Form) → AreShown before l.premises updates l.wanted l.by l.row
