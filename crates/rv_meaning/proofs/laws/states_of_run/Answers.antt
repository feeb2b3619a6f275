use Rattle.rv_meaning.specs.Runs.{cells}
use Rattle.rv_meaning.proofs.{Brought.state_at, Brought.is_state_at, Steps.start_state, Steps.next_state}
use Rattle.rv_meaning.proofs.laws.states_of_run.Goals as goal

pub returns-clause-start : goal.returns-clause-start
returns-clause-start c program main starts h state = start_state program main starts h state

pub returns-clause-next : goal.returns-clause-next
returns-clause-next c program main starts h t state next at after = next_state program main starts h t state next at after

pub returns-clause-some : goal.returns-clause-some
returns-clause-some c program main starts h t well named =
    (state_at program starts (cells h) t main well named, is_state_at program starts (cells h) t main well named well.numbered)
