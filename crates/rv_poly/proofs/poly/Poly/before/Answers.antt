use Rattle.rv_poly.proofs.BeforeLemmas.{kept-fits, kept-few, before-contains, before-exact}
use Rattle.rv_poly.proofs.poly.Poly.before.Goals as goal

pub without_inputs-requires-clause-fits : goal.without_inputs-requires-clause-fits
without_inputs-requires-clause-fits c = kept-fits _ _ _ c.in_ok-both.ensures

pub without_inputs-requires-clause-few : goal.without_inputs-requires-clause-few
without_inputs-requires-clause-few c = kept-few _ _ _ c.in_ok-both.ensures

pub returns-clause-contains : goal.returns-clause-contains
returns-clause-contains c =
    before-contains c.args.self.now.rows c.args.rows.now c.in_ok-earlier.earlier c.in_ok-both.both c.in_ok-rows.rows c.args.updates.now
    c.in_ok-earlier.ensures c.in_ok-both.ensures (rw c.len-width.ensures at c.in_ok-rows.ensures.contains)

pub returns-clause-exact : goal.returns-clause-exact
returns-clause-exact c =
    before-exact c.args.self.now.rows c.args.rows.now c.in_ok-earlier.earlier c.in_ok-both.both c.in_ok-rows.rows c.args.updates.now
    c.in_ok-earlier.ensures c.in_ok-both.ensures (rw c.len-width.ensures at c.in_ok-rows.ensures.exact)
