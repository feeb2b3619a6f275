use Rattle.rv_claims.specs.Claiming.{claim_of}
use Rattle.rv_claimed.proofs.Giving.{given_there}
use Rattle.rv_claimed.proofs.searching.few_entries.Goals as goal

pub found_or_none-requires : goal.found_or_none-requires
found_or_none-requires c = c.requires

pub accepted-requires : goal.accepted-requires
accepted-requires c =
    let (s, thresholds, is) = c.requires in
    let found = rw c.in-Shown.is at c.in_ok-certificate.ensures.found s thresholds is in (
      s,
      given_there s c.args.store.now c.found_or_none.new.store c.args.relation.now c.args.questions.now c.found_or_none.ensures.same is.given,
      found.document,
    )

pub returns-in-Shown-clause-proof : goal.returns-in-Shown-clause-proof
returns-in-Shown-clause-proof c s thresholds is =
    let found = rw c.in-Shown.is at c.in_ok-certificate.ensures.found s thresholds is in
    c.accepted.ensures.proof s (claim_of c.args.claim.now)
    (given_there s c.args.store.now c.found_or_none.new.store c.args.relation.now c.args.questions.now c.found_or_none.ensures.same is.given)
    found.document found.good

pub returns-in-Bad-clause-proof : goal.returns-in-Bad-clause-proof
returns-in-Bad-clause-proof c s thresholds is = rw c.in-Bad.is at c.in_ok-certificate.ensures.found s thresholds is
