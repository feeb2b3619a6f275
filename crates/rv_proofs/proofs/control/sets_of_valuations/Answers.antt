use Rattle.rv_proofs.proofs.ControlReads.{control_same, condition_same}
use Rattle.rv_proofs.proofs.control.sets_of_valuations.Goals as goal

pub returns-clause-control : goal.returns-clause-control
returns-clause-control c = control_same

pub returns-clause-condition : goal.returns-clause-condition
returns-clause-condition c = condition_same
