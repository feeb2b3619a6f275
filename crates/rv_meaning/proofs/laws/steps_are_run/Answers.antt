use Rattle.std.proofs.Common.{arith}
use Rattle.rv_meaning.proofs.Steps.{run_of_steps, states_of_steps}
use Rattle.rv_meaning.proofs.laws.steps_are_run.Goals as goal

pub returns : goal.returns
returns c program main starts inputs n states rows typed given steps = (
  run_of_steps program main starts inputs n rows states typed given steps,
  λ t lt. states_of_steps program main starts inputs n rows states steps t (omega arith),
)
