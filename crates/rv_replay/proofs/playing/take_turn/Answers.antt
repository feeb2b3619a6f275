use Rattle.std.proofs.Common.{subst}
use Rattle.rv_step.specs.Stepping.{IsStepFault}
use Rattle.rv_replay.specs.Playing.{outgrown}
use Rattle.rv_replay.proofs.Observers.{has_truth}
use Rattle.rv_replay.proofs.playing.take_turn.Goals as goal

pub returns-in-Ok-clause-turn : goal.returns-in-Ok-clause-turn
returns-in-Ok-clause-turn c =
    let f = c.args.flat.now in
    let now = c.args.now.now in
    let inputs = c.args.input.now in
    let of = c.requires.program in
    let row = c.in-Ok.stepped.values in
    let is = c.in-Ok.ensures.stepped in
    c.turn_of.ensures f now inputs is
    (has_truth c.typed_instants.ensures.flows c.flat_states.ensures.states c.flat_states.ensures.inputs of.0 of.1 f of.2 now inputs row c.requires.state
    c.requires.inputs is.instant)

pub returns-in-Err-Outgrown-clause-fault : goal.returns-in-Err-Outgrown-clause-fault
returns-in-Err-Outgrown-clause-fault c =
    let h = subst (IsStepFault c.args.flat.now c.args.now.now c.args.input.now) c.in-Err-Outgrown.field-0-is c.in-Err-Outgrown.ensures.fault in
    outgrown h.0 c.in-Err-Outgrown.place h.1 h.2
