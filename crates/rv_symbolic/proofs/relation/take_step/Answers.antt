use Rattle.std.proofs.Common.{◌∙◌, ℕ, subst, refl}
use Rattle.rv_diagram.specs.Nodes.{value_of, IsOrderedOver}
use Rattle.rv_symbolic.specs.{Linked.quantified, Stepped.IsAStep}
use Rattle.rv_symbolic.proofs.{Extending.image_forgets, Projecting.projected_from, Projecting.step_found, Projecting.judged}
use Rattle.rv_symbolic.proofs.relation.take_step.Goals as goal

pub returns-clause-copies : goal.returns-clause-copies
returns-clause-copies c =
    projected_from c.args.store.now.variables (quantified c.args.links.now) (IsAStep c.args.store.now c.args.parts.now c.args.links.now c.args.from.now)
    (value_of c.image.new.self.nodes c.in_ok-next.next) c.in_ok-copies.copies
    (subst (λ (m : ℕ). IsOrderedOver m c.in_ok-copies.copies) (c.in_ok-next.ensures.ok.grows.variables
    ∙ c.in_ok-within.ensures.extends.variables) c.in_ok-copies.ensures.ordered)
    c.in_ok-copies.ensures.means c.in_ok-copies.ensures.needed
    (image_forgets c.allowed_within.new.store c.image.new.self c.in_ok-within.within.all c.in_ok-next.next c.args.links.now c.in_ok-next.ensures.ok)
    (step_found c.args.store.now c.allowed_within.new.store c.image.new.self c.args.parts.now c.args.links.now c.in_ok-within.within.all
    c.in_ok-next.next c.args.from.now
    c.requires.links c.in_ok-within.ensures.all c.in_ok-next.ensures.ok)

pub returns-clause-good : goal.returns-clause-good
returns-clause-good c =
    judged c.args.store.now c.allowed_within.new.store c.image.new.self c.args.parts.now c.args.from.now c.in_ok-within.within.bad c.in_ok-met.met _ refl
    c.in_ok-within.ensures.bad c.in_ok-next.ensures.ok.grows c.in_ok-met.ensures
