use Rattle.rv_diagram.specs.Nodes.{valuation_of}
use Rattle.rv_diagram.proofs.Growing.{call_extends}
use Rattle.rv_claimed.proofs.Sought.{is_within_all, is_within_not}
use Rattle.rv_claimed.proofs.searching.is_within.Goals as goal

pub returns-clause-extends : goal.returns-clause-extends
returns-clause-extends c = call_extends c.args.store.now c.ite.new.self _ c.ite.result c.ite.ensures.ok c.ite.ensures.err

pub returns-in-Some-clause-exact : goal.returns-in-Some-clause-exact
returns-in-Some-clause-exact c =
    let least = rw c.in-Some.is at c.in_ok-outside.ensures in
    is_within_not c.args.store.now c.ite.new.self c.args.whole c.constant-none.result c.args.part c.in_ok-rest.rest c.constant-none.ensures.means
    c.in_ok-rest.ensures.ok (valuation_of c.in-Some.field-0) least.holds

pub returns-clause-exact : goal.returns-clause-exact
returns-clause-exact c =
    is_within_all c.args.store.now c.ite.new.self c.args.whole c.constant-none.result c.args.part c.in_ok-rest.rest c.constant-none.ensures.means
    c.in_ok-rest.ensures.ok (rw c.in_default.is at c.in_ok-outside.ensures)
