use Rattle.rv_made_safe.proofs.{Control.control, Chain.safe}
use Rattle.rv_made_safe.proofs.laws.made_programs_are_safe.Goals as goal

pub returns-clause-safe : goal.returns-clause-safe
returns-clause-safe c = safe

pub returns-clause-control : goal.returns-clause-control
returns-clause-control c = control
