use Rattle.std.proofs.Common.{sym, subst}
use Rattle.rv_diagram.specs.Nodes.{Diagrams, IsOrderedOver}
use Rattle.rv_diagram.proofs.Growing.{extends_trans, equal_extends, call_extends}
use Rattle.rv_accept.specs.{Steps.has, Held.follow}
use Rattle.rv_accept.proofs.Moving.{thawed_means}
use Rattle.rv_accept.proofs.words.led_alone.Goals as goal

pub thaw-requires : goal.thaw-requires
thaw-requires c = subst (λ (d : Diagrams). IsOrderedOver d.variables c.in_ok-apart.apart) (sym c.led_apart.ensures.same) c.in_ok-apart.ensures.ordered

pub returns-clause-extends : goal.returns-clause-extends
returns-clause-extends c = extends_trans c.args.store.now c.led_apart.new.store c.thaw.new.self
    (equal_extends c.args.store.now c.led_apart.new.store c.led_apart.ensures.same)
    (call_extends c.led_apart.new.store c.thaw.new.self _ c.thaw.result c.thaw.ensures.ok c.thaw.ensures.err)

pub returns-clause-means : goal.returns-clause-means
returns-clause-means c = thawed_means c.thaw.result c.led_apart.new.store c.thaw.new.self (has c.in_ok-apart.apart)
    (λ v. has c.args.set.now (follow c.args.store.now c.args.next.now v)) c.in_ok-apart.ensures.means c.thaw.ensures.ok
