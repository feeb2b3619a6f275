use Rattle.rv_control.proofs.Inverse.{said_back, read_back}
use Rattle.rv_control.proofs.laws.names_are_numbers.Goals as goal

pub returns-clause-named : goal.returns-clause-named
returns-clause-named c = said_back

pub returns-clause-numbered : goal.returns-clause-numbered
returns-clause-numbered c = read_back
