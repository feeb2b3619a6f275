use Rattle.rv_proofs.proofs.Safe.{starts_at, step_at, observed_at, in_state}
use Rattle.rv_proofs.proofs.laws.invariants_are_inductive.Goals as goal

pub returns-clause-starts : goal.returns-clause-starts
returns-clause-starts c s certificate v point accepted start = starts_at s certificate v point accepted start

pub returns-clause-steps : goal.returns-clause-steps
returns-clause-steps c s certificate v w point next accepted agrees allowed same updated inside =
    step_at s certificate accepted v point agrees allowed w next same updated inside

pub returns-clause-observed : goal.returns-clause-observed
returns-clause-observed c s certificate v point accepted agrees allowed inside = observed_at s certificate accepted v point agrees allowed inside

pub returns-clause-in_state : goal.returns-clause-in_state
returns-clause-in_state c s certificate k l point accepted at within =
    let partition = accepted.partition in in_state l point (partition.included k l at) within
