use Rattle.rv_types.proofs.{Answered.not_both, SomeFault.settled_or_first}
use Rattle.rv_types.proofs.laws.settled_or_refused.Goals as goal

pub returns-clause-either : goal.returns-clause-either
returns-clause-either c = settled_or_first

pub returns-clause-never_both : goal.returns-clause-never_both
returns-clause-never_both c = not_both
