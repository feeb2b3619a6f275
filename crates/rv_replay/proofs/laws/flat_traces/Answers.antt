use Rattle.rv_replay.proofs.FlatTraces.{flat_trace, trace_of_program}
use Rattle.rv_replay.proofs.laws.flat_traces.Goals as goal

pub returns-clause-flat : goal.returns-clause-flat
returns-clause-flat c = λ program main f t well named flat trace. flat_trace program main t trace c.flat_states.ensures.back c.flat_states.ensures.given f well
    named flat

pub returns-clause-back : goal.returns-clause-back
returns-clause-back c = λ program main f t well named flat trace. trace_of_program c.flat_states.ensures.states c.flat_states.ensures.inputs program main f t
    well named flat trace
