use Rattle.rv_diagram.proofs.Growing.{extends_trans}
use Rattle.rv_cases.proofs.Keeping.{questions_later}
use Rattle.rv_refine.proofs.hull.hull_in.Goals as goal

pub next_step-requires-clause-asked : goal.next_step-requires-clause-asked
next_step-requires-clause-asked c =
    let (s, is, ask) = c.requires.asked in
    (s, is, questions_later s c.args.store.now c.loop-step.store c.args.questions.now c.loop-step.invariant.extends ask)

pub returns-in_err-hull-clause-extends : goal.returns-in_err-hull-clause-extends
returns-in_err-hull-clause-extends c =
    extends_trans c.args.store.now c.loop-step.store c.next_step.new.store c.loop-step.invariant.extends c.next_step.ensures.extends

pub loop-step-preserved : goal.loop-step-preserved
loop-step-preserved c = record {
  extends = extends_trans c.args.store.now c.loop-step.store c.next_step.new.store c.loop-step.invariant.extends c.next_step.ensures.extends;
  hull = c.in_ok-hull.ensures.hull;
}
