use Rattle.rv_state.proofs.{JoinLemmas.both-one-width, NarrowLemmas.spans-narrowed, NarrowLemmas.points-narrowed}
use Rattle.rv_state.proofs.narrow.PairsDomain.meet.Goals as goal

pub meet-requires-clause-widths : goal.meet-requires-clause-widths
meet-requires-clause-widths c =
    let (width, own, rows) = c.requires in
    both-one-width c.args.self.now.poly.rows c.args.rows.now width own.widths rows

pub returns-clause-spans : goal.returns-clause-spans
returns-clause-spans c width own rows =
    spans-narrowed 2 c.in_ok-found.found.rows c.in_ok-poly.poly.rows width c.in_ok-poly.ensures c.in_ok-found.ensures.poly
    (c.in_ok-found.ensures.width width own.widths rows)

pub returns-clause-contains : goal.returns-clause-contains
returns-clause-contains c point own rows =
    points-narrowed 2 c.in_ok-found.found.rows c.in_ok-poly.poly.rows c.in_ok-poly.ensures point (c.in_ok-found.ensures.contains point own rows)
