use Rattle.rv_diagram.specs.Nodes.{IsRef}
use Rattle.rv_refine.specs.Plans.{ArePremises}
use Rattle.rv_refine.proofs.Framing.{at_place}
use Rattle.rv_refine.proofs.covering.target_for.Goals as goal

pub returns : goal.returns
returns c = record {
  wanted = λ s nodes plan into. record {
    into = at_place (IsRef nodes) c.args.frame.now.into c.args.spot.part c.at-2.result.now into c.at-2.ensures.value;
    wanted =
        let premises = at_place (ArePremises s) c.args.plan.now.rows c.args.spot.part c.at-rows.result.now plan.each c.at-rows.ensures.value in
        c.in_ok-wanted.ensures.kept s premises.kept;
  };
}
