use Rattle.std.proofs.Common.{◌≡◌, length, All, ◌∙◌, ap}
use Rattle.rv_refine.specs.{Plans.ArePremises}
use Rattle.rv_refine.proofs.covering.plan_of.Goals as goal

pub returns-in-Some : goal.returns-in-Some
returns-in-Some c s planned =
    let (t, are, known) = c.requires in
    let many : length c.in-Some.rows ≡ length c.args.frame.now.sets = rw c.in-Some.is at c.in_ok-rows.ensures.many in
    let rows : All (ArePremises s) c.in-Some.rows = rw c.in-Some.is at c.in_ok-rows.ensures.rows s planned in
    record {
      numbers = c.in_ok-numbers.ensures ∙ known.reached;
      reached = ap length c.in_ok-reached.ensures ∙ known.reached;
      rows = many;
      each = rows;
    }
