use Rattle.rv_claimed.proofs.Entering.{reached_from}
use Rattle.rv_symbolic.proofs.Extending.{map_ok}
use Rattle.rv_claimed.proofs.entries.reach_row.Goals as goal

pub shown-requires : goal.shown-requires
shown-requires c = c.requires.wanted.small c.in_ok-row.row c.in_ok-row.ensures.exact

pub returns : goal.returns
returns c =
    let (order, shows) = rw c.in-Some.is at c.in_ok-pair.ensures.found in
    map_ok c.multipliers_of.result _ _
    (λ m placed. reached_from c.args.many c.len.result c.args.given.now c.args.premises.now c.args.case.now c.args.wanted.now c.in_ok-row.row m
    c.len.ensures c.requires.are c.in_ok-row.ensures.exact
    (record { first = c.in-Some.pair.first; second = c.in-Some.pair.second; order = order; shows = shows; placed = placed }))
    c.multipliers_of.ensures

pub unreachable-requires : goal.unreachable-requires
unreachable-requires c =
    let missing = rw c.in-None.is at c.in_ok-pair.ensures.missing in
    missing (c.requires.wanted.shown c.in_ok-row.row c.in_ok-row.ensures.exact)
