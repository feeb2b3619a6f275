use Rattle.std.proofs.Common.{ℕ, subst}
use Rattle.rv_diagram.specs.Nodes.{value_of, IsOrderedOver}
use Rattle.rv_proofs.specs.Scopes.{IsIn}
use Rattle.rv_symbolic.specs.Linked.{AreMet, quantified}
use Rattle.rv_symbolic.proofs.Projecting.{projected_from}
use Rattle.rv_symbolic.proofs.steps.projected.Goals as goal

pub returns-clause-ok : goal.returns-clause-ok
returns-clause-ok c =
    projected_from c.args.store.now.variables (quantified c.args.links.now) (λ w. IsIn c.args.set.now w × IsIn c.args.condition.now w
    × AreMet c.args.store.now.nodes c.args.links.now w)
    (value_of c.product.new.store.nodes c.in_ok-r.r) c.in_ok-freeze.field-0
    (subst (λ (m : ℕ). IsOrderedOver m c.in_ok-freeze.field-0) c.in_ok-r.ensures.extends.variables c.in_ok-freeze.ensures.ordered)
    c.in_ok-freeze.ensures.means c.in_ok-freeze.ensures.needed c.in_ok-r.ensures.forgets c.in_ok-r.ensures.ok.exact
