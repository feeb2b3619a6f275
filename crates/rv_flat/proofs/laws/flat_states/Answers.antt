use Rattle.rv_flat.proofs.Typing.{state_of_program, inputs_of_program, state_of_flat, inputs_of_flat}
use Rattle.rv_flat.proofs.laws.flat_states.Goals as goal

pub returns-clause-states : goal.returns-clause-states
returns-clause-states c program main f now well named flat state = state_of_program program main f well named flat now state

pub returns-clause-inputs : goal.returns-clause-inputs
returns-clause-inputs c program main f given well named flat are = inputs_of_program program main f well named flat given are

pub returns-clause-back : goal.returns-clause-back
returns-clause-back c program main f state well named flat starts small = state_of_flat program main f well named flat state starts small

pub returns-clause-given : goal.returns-clause-given
returns-clause-given c program main f inputs well named flat given small = inputs_of_flat program main f well named flat inputs given small
