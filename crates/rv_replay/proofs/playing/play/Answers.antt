use Rattle.std.proofs.Common.{subst, arith}
use Rattle.std.specs.Prelude.{Ok}
use Rattle.rv_flat.specs.Steps.{AreValues, input_kinds}
use Rattle.rv_replay.specs.Playing.{IsTurn}
use Rattle.rv_replay.proofs.Turns.{all_played, ended, faulted, going_on, stands_at}
use Rattle.rv_replay.proofs.playing.play.Goals as goal

pub take_turn-requires-clause-inputs : goal.take_turn-requires-clause-inputs
take_turn-requires-clause-inputs c =
    let f = c.args.flat.now in
    let k = c.loop-number.number in
    let is = stands_at c.args.trace.now.instants k c.at-input.result.now c.at-input.ensures.value in
    subst (AreValues f (input_kinds f)) is.1 (c.requires.trace.instants k is.0)

pub returns-in-Ok-Ends : goal.returns-in-Ok-Ends
returns-in-Ok-Ends c =
    let f = c.args.flat.now in
    let k = c.loop-number.number in
    let now = c.loop-number.now in
    let x = c.at-input.result.now in
    let turned = subst (IsTurn f k now x) c.in-Ok-Ends.field-0-is c.in-Ok-Ends.ensures.turn in
    ended f c.args.trace.now c.in_ok-now.now c.in_ok-now.ensures.start k now c.loop-number.invariant.played x c.at-input.ensures.value
    (Ok c.in-Ok-Ends.end) turned

pub returns-in-Err : goal.returns-in-Err
returns-in-Err c =
    faulted c.args.flat.now c.args.trace.now c.in_ok-now.now c.in_ok-now.ensures.start c.loop-number.number c.loop-number.now c.loop-number.invariant.played
    c.at-input.result.now c.at-input.ensures.value
    c.in-Err.fault c.in-Err.ensures.fault

pub loop-number-preserved : goal.loop-number-preserved
loop-number-preserved c =
    let f = c.args.flat.now in
    let k = c.loop-number.number in
    let now = c.loop-number.now in
    let x = c.at-input.result.now in
    let turned = subst (IsTurn f k now x) c.in-Ok-GoesOn.field-0-is c.in-Ok-GoesOn.ensures.turn in
    record {
      state = turned.1;
      played = λ a more. going_on f c.args.trace.now c.in_ok-now.now c.in_ok-now.ensures.start k now c.loop-number.invariant.played x c.at-input.ensures.value
          c.in-Ok-GoesOn.next turned.0 a more;
    }

pub returns : goal.returns
returns c =
    all_played c.args.flat.now c.args.trace.now c.in_ok-now.now c.in_ok-now.ensures.start c.loop-number.number c.loop-number.now c.loop-number.invariant.played
    (omega arith)
