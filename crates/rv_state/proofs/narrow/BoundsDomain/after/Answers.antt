use Rattle.std.proofs.Common.{length}
use Rattle.rv_state.proofs.NarrowLemmas.{spans-narrowed, points-narrowed}
use Rattle.rv_state.proofs.narrow.BoundsDomain.after.Goals as goal

pub returns-clause-spans : goal.returns-clause-spans
returns-clause-spans c =
    spans-narrowed 1 c.in_ok-found.found.rows c.in_ok-poly.poly.rows (length c.args.updates.now) c.in_ok-poly.ensures c.in_ok-found.ensures.poly
    c.in_ok-found.ensures.width

pub returns-clause-contains : goal.returns-clause-contains
returns-clause-contains c point own rows =
    points-narrowed 1 c.in_ok-found.found.rows c.in_ok-poly.poly.rows c.in_ok-poly.ensures _ (c.in_ok-found.ensures.contains point own rows)
