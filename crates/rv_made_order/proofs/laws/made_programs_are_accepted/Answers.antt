use Rattle.rv_made_order.proofs.{Settled.typed_of, Settled.settled, Accepted.accepted}
use Rattle.rv_made_order.proofs.laws.made_programs_are_accepted.Goals as goal

pub returns-clause-settled : goal.returns-clause-settled
returns-clause-settled c = λ o n few. (typed_of o n, settled o n few)

pub returns-clause-accepted : goal.returns-clause-accepted
returns-clause-accepted c = λ o n few. accepted o n few
