use Rattle.rv_claimed.proofs.Entering.{shut_from}
use Rattle.rv_claimed.proofs.entries.shut_by.Goals as goal

pub returns-in_ok-refutation-in-Some-clause-shut : goal.returns-in_ok-refutation-in-Some-clause-shut
returns-in_ok-refutation-in-Some-clause-shut c =
    let (order, shows) = rw c.in-Some.is at c.in_ok-pair.ensures.found in
    shut_from c.args.many c.len.result c.args.given.now c.args.premises.now c.args.case.now c.in_ok-refutation-in-Some.refutation c.len.ensures c.requires.are
    (record { first = c.in-Some.pair.first; second = c.in-Some.pair.second; order = order; shows = shows; placed = c.in_ok-refutation-in-Some.ensures })
