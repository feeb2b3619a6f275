use Rattle.rv_diagram.proofs.Growing.{extends_trans}
use Rattle.rv_refine.specs.Plans.{ArePremises}
use Rattle.rv_refine.proofs.Framing.{at_place, frame_later}
use Rattle.rv_refine.proofs.Planning.{searched_by}
use Rattle.rv_refine.proofs.covering.steps_in.Goals as goal

pub steps_toward-requires-clause-searched : goal.steps_toward-requires-clause-searched
steps_toward-requires-clause-searched c =
    let (s, frame, plan) = c.requires.frame in
    let later = frame_later s c.args.store.now c.here_in.new.store c.args.questions.now c.args.frame.now c.here_in.ensures.extends frame in
    let premises = at_place (ArePremises s) c.args.plan.now.rows c.args.place c.at-given.result.now plan.each c.at-given.ensures.value in (
      s,
      searched_by s c.here_in.new.store c.args.questions.now c.args.frame.now _ _ c.in_ok-within.within c.at-given.result.now later premises.few
          c.in_ok-within.ensures,
      c.in_ok-target.ensures.wanted s c.here_in.new.store.nodes plan later.held.into,
    )

pub returns-clause-extends : goal.returns-clause-extends
returns-clause-extends c =
    extends_trans c.args.store.now c.here_in.new.store c.steps_toward.new.store c.here_in.ensures.extends c.steps_toward.ensures.extends
