use Rattle.rv_state.proofs.NarrowLemmas.{spans-narrowed, points-narrowed, only-narrowed}
use Rattle.rv_state.proofs.narrow.Bounds.of.Goals as goal

pub returns-clause-spans : goal.returns-clause-spans
returns-clause-spans c width widths = spans-narrowed 1 c.args.poly.now.rows c.in_ok-poly.poly.rows width c.in_ok-poly.ensures c.requires widths

pub returns-clause-contains : goal.returns-clause-contains
returns-clause-contains c = points-narrowed 1 c.args.poly.now.rows c.in_ok-poly.poly.rows c.in_ok-poly.ensures

pub returns-clause-only : goal.returns-clause-only
returns-clause-only c = only-narrowed 1 c.args.poly.now.rows c.in_ok-poly.poly.rows c.in_ok-poly.ensures
