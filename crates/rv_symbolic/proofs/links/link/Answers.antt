use Rattle.std.proofs.Common.{◌+◌, ◌*◌, ◌&&◌}
use Rattle.rv_diagram.specs.Nodes.{Answers, value_of}
use Rattle.rv_diagram.proofs.Growing.{extends_trans, grows_extends, call_extends}
use Rattle.rv_symbolic.proofs.Extending.{map_ok, link_found}
use Rattle.rv_symbolic.proofs.links.link.Goals as goal

pub returns-clause-extends : goal.returns-clause-extends
returns-clause-extends c =
    extends_trans c.args.store.now c.ite.new.self c.and.new.self
    (extends_trans c.args.store.now c.variable.new.self c.ite.new.self
    (extends_trans c.args.store.now c.not.new.self c.variable.new.self (grows_extends c.args.store.now c.not.new.self
    c.in_ok-not_next.ensures.ok.grows) (grows_extends c.not.new.self c.variable.new.self c.in_ok-copy.ensures.ok.grows))
    (grows_extends c.variable.new.self c.ite.new.self c.in_ok-same.ensures.ok.grows))
    (call_extends c.ite.new.self c.and.new.self _ c.and.result c.and.ensures.ok c.and.ensures.err)

pub returns-clause-ok : goal.returns-clause-ok
returns-clause-ok c =
    map_ok c.and.result (λ r. Answers c.ite.new.self c.and.new.self (λ v. value_of c.ite.new.self.nodes c.in_ok-same.same v && value_of
    c.ite.new.self.nodes c.args.whole v) r) _
    (λ r t. link_found c.args.store.now c.not.new.self c.variable.new.self c.ite.new.self c.and.new.self c.args.whole c.args.next
    c.in_ok-not_next.not_next c.in_ok-copy.copy c.in_ok-same.same r (2 * c.args.i + 1)
    c.requires.whole c.requires.next c.in_ok-not_next.ensures.ok c.in_ok-copy.ensures.ok c.in_ok-same.ensures.ok t)
    c.and.ensures.ok
