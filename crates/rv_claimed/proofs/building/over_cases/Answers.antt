use Rattle.rv_claimed.proofs.Giving.{given_there, parts_given}
use Rattle.rv_claimed.proofs.building.over_cases.Goals as goal

pub start_of-requires : goal.start_of-requires
start_of-requires c = let (s, thresholds, given, kept, closed) = c.requires.given in (s, given)

pub others_of-requires : goal.others_of-requires
others_of-requires c =
    let (s, thresholds, given, kept, closed) = c.requires.given in
    let start = c.in_ok-start.ensures.start s given in (
      s,
      thresholds,
      given_there s c.args.store.now c.start_of.new.store c.args.relation.now c.args.questions.now c.start_of.ensures.same given,
      start.initial,
      kept,
    )

pub returns-clause-proof : goal.returns-clause-proof
returns-clause-proof c s thresholds given kept closed =
    let start = c.in_ok-start.ensures.start s given in
    let there = given_there s c.args.store.now c.start_of.new.store c.args.relation.now c.args.questions.now c.start_of.ensures.same given in
    let others = c.in_ok-others.ensures.others s thresholds there start.initial kept in
    c.in_ok-assembled.ensures s (parts_given s thresholds c.args.store.now c.args.relation.now c.args.questions.now c.args.claim.now c.args.many
    c.in_ok-start.start c.in_ok-others.others c.requires.many given kept closed c.requires.few start others)
