use Rattle.rv_diagram.proofs.Growing.{extends_trans}
use Rattle.rv_refine.proofs.Framing.{frame_later}
use Rattle.rv_refine.proofs.bounding.risen_in.Goals as goal

pub next_turn-requires-clause-frame : goal.next_turn-requires-clause-frame
next_turn-requires-clause-frame c =
    let (s, frame, side) = c.requires.frame in
    (s, frame_later s c.args.store.now c.loop-turn.store c.args.questions.now c.args.frame.now c.loop-turn.invariant.extends frame, side)

pub returns-in_err-next-clause-extends : goal.returns-in_err-next-clause-extends
returns-in_err-next-clause-extends c = extends_trans c.args.store.now c.loop-turn.store c.next_turn.new.store c.loop-turn.invariant.extends
    c.next_turn.ensures.extends

pub returns-in-None-clause-extends : goal.returns-in-None-clause-extends
returns-in-None-clause-extends c = extends_trans c.args.store.now c.loop-turn.store c.next_turn.new.store c.loop-turn.invariant.extends
    c.next_turn.ensures.extends

pub loop-turn-preserved : goal.loop-turn-preserved
loop-turn-preserved c = record {
  extends = extends_trans c.args.store.now c.loop-turn.store c.next_turn.new.store c.loop-turn.invariant.extends c.next_turn.ensures.extends;
  turn = rw c.in-Some.is at c.in_ok-next.ensures.turn;
}
