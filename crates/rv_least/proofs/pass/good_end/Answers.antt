use Rattle.rv_boxes.proofs.Giving.{given_there}
use Rattle.rv_least.proofs.pass.good_end.Goals as goal

pub few_entries-requires : goal.few_entries-requires
few_entries-requires c = let (s, given, least, good) = c.requires in (s, given, least.kept)

pub over_cases-requires : goal.over_cases-requires
over_cases-requires c =
    let (s, given, least, good) = c.requires in (
      s,
      given_there s c.args.store.now c.few_entries.new.store c.args.relation.now c.args.questions.now c.args.frame.now c.few_entries.ensures.same given,
      least,
      good,
    )

pub returns-in-Some-clause-proof : goal.returns-in-Some-clause-proof
returns-in-Some-clause-proof c s given least = rw c.in-Some.is at c.in_ok-certificate.ensures.proof s given least.kept

pub returns-in-None-clause-proof : goal.returns-in-None-clause-proof
returns-in-None-clause-proof c s given least =
    c.over_cases.ensures.proof s
    (given_there s c.args.store.now c.few_entries.new.store c.args.relation.now c.args.questions.now c.args.frame.now c.few_entries.ensures.same given)
    least
