use Rattle.std.proofs.Common.{subst, Result, IfOk}
use Rattle.rv_diagram.specs.declared.store.StoreFault.{StoreFault}
use Rattle.rv_symbolic.proofs.Extending.{map_ok}
use Rattle.rv_walk.specs.{declared.end.BoxEnd.BoxEnd, Ends.IsEnd, Plain.IsPlainEnd}
use Rattle.rv_walk.proofs.Ending.{good_exactly, good_decides}
use Rattle.rv_walk.proofs.walking.walk.Goals as goal

pub returns-clause-good : goal.returns-clause-good
returns-clause-good c s x is without e = subst (λ (o : Result BoxEnd StoreFault). IfOk o (IsEnd s)) e (c.end_of.ensures.ends s is without)

pub returns-clause-plain : goal.returns-clause-plain
returns-clause-plain c x e = subst (λ (o : Result BoxEnd StoreFault). IfOk o IsPlainEnd) e c.end_of.ensures.plain

pub returns-clause-bad : goal.returns-clause-bad
returns-clause-bad c s l is without e = subst (λ (o : Result BoxEnd StoreFault). IfOk o (IsEnd s)) e (c.end_of.ensures.ends s is without)

pub returns-clause-exactly : goal.returns-clause-exactly
returns-clause-exactly c s thresholds is without = map_ok c.end_of.result (IsEnd s) _ (λ x end. good_exactly s thresholds x
    (c.control_claims.ensures.same s thresholds without) end)
    (c.end_of.ensures.ends s is without)

pub returns-clause-decides : goal.returns-clause-decides
returns-clause-decides c s is without = map_ok c.end_of.result (IsEnd s) _ (λ x end. good_decides s x without
    (c.certificates_are_safe.ensures.safe s) end) (c.end_of.ensures.ends s is without)
