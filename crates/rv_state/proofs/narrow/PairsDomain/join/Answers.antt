use Rattle.rv_state.proofs.{JoinLemmas.both-one-width, NarrowLemmas.spans-narrowed, NarrowLemmas.points-narrowed}
use Rattle.rv_state.proofs.narrow.PairsDomain.join.Goals as goal

pub joined-requires-clause-widths : goal.joined-requires-clause-widths
joined-requires-clause-widths c =
    let (width, own, other) = c.requires in
    both-one-width c.args.self.now.poly.rows c.args.other.now.poly.rows width own.widths other.widths

pub returns-clause-spans : goal.returns-clause-spans
returns-clause-spans c width own other =
    spans-narrowed 2 c.in_ok-found.found.rows c.in_ok-poly.poly.rows width c.in_ok-poly.ensures c.in_ok-found.ensures.poly
    (c.in_ok-found.ensures.width width own.widths other.widths)

pub returns-clause-contains : goal.returns-clause-contains
returns-clause-contains c point h =
    points-narrowed 2 c.in_ok-found.found.rows c.in_ok-poly.poly.rows c.in_ok-poly.ensures point (c.in_ok-found.ensures.contains point h)
