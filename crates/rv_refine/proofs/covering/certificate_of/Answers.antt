use Rattle.rv_refine.specs.Plans.{IsPlan}
use Rattle.rv_refine.proofs.Planning.{planned_of}
use Rattle.rv_refine.proofs.covering.certificate_of.Goals as goal

pub certificate_by-requires-clause-frame : goal.certificate_by-requires-clause-frame
certificate_by-requires-clause-frame c =
    let (s, frame) = c.requires.frame in
    let planned = planned_of s c.args.store.now c.args.questions.now c.args.frame.now frame in
    let plan : IsPlan s c.args.frame.now c.in-Some.plan = rw c.in-Some.is at c.in_ok-plan.ensures s planned in
    (s, frame, plan)
