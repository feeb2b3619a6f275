use Rattle.rv_diagram.proofs.Growing.{extends_trans, grows_extends}
use Rattle.rv_walk.proofs.Joining.{without_made}
use Rattle.rv_walk.proofs.sets.without_in.Goals as goal

pub returns-clause-exact : goal.returns-clause-exact
returns-clause-exact c =
    without_made c.args.store.now c.thaw.new.self c.thaw-2.new.self c.rest.new.store c.args.a.now c.args.b.now c.in_ok-freeze.field-0
    c.in_ok-one.one c.in_ok-other.other c.in_ok-left.left c.in_ok-one.ensures.ok c.in_ok-other.ensures.ok c.in_ok-left.ensures.ok
    c.in_ok-freeze.ensures.ordered c.in_ok-freeze.ensures.means c.in_ok-freeze.ensures.needed

pub returns-in_err-freeze-clause-extends : goal.returns-in_err-freeze-clause-extends
returns-in_err-freeze-clause-extends c = extends_trans c.args.store.now c.thaw-2.new.self c.rest.new.store (extends_trans c.args.store.now c.thaw.new.self
    c.thaw-2.new.self (grows_extends c.args.store.now c.thaw.new.self c.in_ok-one.ensures.ok.grows) (grows_extends c.thaw.new.self c.thaw-2.new.self
    c.in_ok-other.ensures.ok.grows)) c.rest.ensures.extends

pub returns-clause-extends : goal.returns-clause-extends
returns-clause-extends c = extends_trans c.args.store.now c.thaw-2.new.self c.rest.new.store (extends_trans c.args.store.now c.thaw.new.self
    c.thaw-2.new.self (grows_extends c.args.store.now c.thaw.new.self c.in_ok-one.ensures.ok.grows) (grows_extends c.thaw.new.self c.thaw-2.new.self
    c.in_ok-other.ensures.ok.grows)) c.rest.ensures.extends
