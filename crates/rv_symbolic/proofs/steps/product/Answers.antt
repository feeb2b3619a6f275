use Rattle.rv_diagram.specs.{Nodes.value_of, Several.Gives, Several.Stepped}
use Rattle.rv_diagram.proofs.Growing.{extends_trans, gives_extends}
use Rattle.std.proofs.Common.{length}
use Rattle.rv_symbolic.proofs.Extending.{map_ok, product_extends, product_found, image_forgets}
use Rattle.rv_symbolic.proofs.steps.product.Goals as goal

pub returns-clause-extends : goal.returns-clause-extends
returns-clause-extends c =
    extends_trans c.args.store.now c.and.new.self c.image.new.self
    (product_extends c.args.store.now c.thaw.new.self c.thaw-2.new.self c.and.new.self (value_of c.args.set.now.nodes c.args.set.now.root)
    (value_of c.args.condition.now.nodes c.args.condition.now.root)
    c.in_ok-one.one c.in_ok-other.other c.in_ok-both.both c.in_ok-one.ensures.ok c.in_ok-other.ensures.ok c.in_ok-both.ensures.ok)
    (gives_extends c.and.new.self c.image.new.self _ c.image.result c.image.ensures.ok c.image.ensures.err)

pub returns-clause-ok : goal.returns-clause-ok
returns-clause-ok c =
    map_ok c.image.result (λ r. Gives c.and.new.self c.image.new.self (Stepped c.and.new.self.nodes c.in_ok-both.both c.args.links.now
    (length c.args.links.now)) r) _
    (λ r t. product_found c.args.store.now c.thaw.new.self c.thaw-2.new.self c.and.new.self c.image.new.self c.args.set.now c.args.condition.now
    c.in_ok-one.one c.in_ok-other.other c.in_ok-both.both
    r c.args.links.now c.requires.links c.in_ok-one.ensures.ok c.in_ok-other.ensures.ok c.in_ok-both.ensures.ok t)
    c.image.ensures.ok

pub returns-clause-forgets : goal.returns-clause-forgets
returns-clause-forgets c =
    map_ok c.image.result (λ r. Gives c.and.new.self c.image.new.self (Stepped c.and.new.self.nodes c.in_ok-both.both c.args.links.now
    (length c.args.links.now)) r) _
    (λ r t. image_forgets c.and.new.self c.image.new.self c.in_ok-both.both r c.args.links.now t)
    c.image.ensures.ok
