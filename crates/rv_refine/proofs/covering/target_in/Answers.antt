use Rattle.rv_refine.specs.Plans.{ArePremises}
use Rattle.rv_refine.proofs.Framing.{at_place}
use Rattle.rv_refine.proofs.covering.target_in.Goals as goal

pub returns-clause-target : goal.returns-clause-target
returns-clause-target c s plan = record {
  into = c.in_ok-into.ensures.ok.found;
  wanted =
      let premises = at_place (ArePremises s) c.args.plan.now.rows c.args.place c.at-2.result.now plan.each c.at-2.ensures.value in
      c.in_ok-wanted.ensures.kept s premises.kept;
}
