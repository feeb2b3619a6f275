use Rattle.rv_boxes.proofs.Giving.{given_there}
use Rattle.rv_least.proofs.searching.few_entries.Goals as goal

pub found_or_none-requires : goal.found_or_none-requires
found_or_none-requires c = c.requires

pub judged-requires : goal.judged-requires
judged-requires c =
    let (s, given, kept) = c.requires in (
      s,
      c.args.frame.now,
      given_there s c.args.store.now c.found_or_none.new.store c.args.relation.now c.args.questions.now c.args.frame.now c.found_or_none.ensures.same given,
      rw c.in-Some.is at c.in_ok-certificate.ensures.found s given kept,
    )

pub returns-in-Some-clause-proof : goal.returns-in-Some-clause-proof
returns-in-Some-clause-proof c s given kept =
    c.judged.ensures.proof s c.args.frame.now
    (given_there s c.args.store.now c.found_or_none.new.store c.args.relation.now c.args.questions.now c.args.frame.now c.found_or_none.ensures.same given)
    (rw c.in-Some.is at c.in_ok-certificate.ensures.found s given kept)
