use Rattle.rv_boxes.proofs.Giving.{given_there}
use Rattle.rv_least.proofs.pass.pass_in.Goals as goal

pub closed_claim-requires : goal.closed_claim-requires
closed_claim-requires c = c.requires

pub end_of-requires : goal.end_of-requires
end_of-requires c =
    let (s, given) = c.requires in (
      s,
      given_there s c.args.store.now c.closed_claim.new.store c.args.relation.now c.args.questions.now c.args.frame.now c.closed_claim.ensures.same given,
      c.in_ok-closed.ensures.least s given,
    )

pub returns-clause-ends : goal.returns-clause-ends
returns-clause-ends c s given =
    c.end_of.ensures.ends s
    (given_there s c.args.store.now c.closed_claim.new.store c.args.relation.now c.args.questions.now c.args.frame.now c.closed_claim.ensures.same given)
    (c.in_ok-closed.ensures.least s given)
