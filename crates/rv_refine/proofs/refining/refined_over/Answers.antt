use Rattle.rv_refine.proofs.Judging.{given_after}
use Rattle.rv_refine.proofs.refining.refined_over.Goals as goal

pub refined_with-requires : goal.refined_with-requires
refined_with-requires c =
    let (s, given) = c.requires.given in record {
      given = (
        s,
        given_after s c.args.store.now c.frame_over.new.store c.args.relation.now c.args.questions.now c.frame_over.ensures.extends given,
        c.in_ok-frame.ensures.frame s given,
      );
    }

pub returns-clause-accepted : goal.returns-clause-accepted
returns-clause-accepted c s given =
    c.refined_with.ensures.accepted s
    (given_after s c.args.store.now c.frame_over.new.store c.args.relation.now c.args.questions.now c.frame_over.ensures.extends given)
