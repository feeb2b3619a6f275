use Rattle.std.proofs.Common.{ℕ, All, sym, subst}
use Rattle.std.proofs.lemmas.List.Elements.{All-push}
use Rattle.rv_diagram.specs.Nodes.{IsOrderedOver}
use Rattle.rv_refine.proofs.parts.take_state.Goals as goal

pub returns-clause-ordered : goal.returns-clause-ordered
returns-clause-ordered c =
    let extends = c.in_ok-state.ensures.extends in
    subst (All (IsOrderedOver c.args.store.now.variables)) (sym c.in_ok-push.ensures.ok)
    (All-push (IsOrderedOver c.args.store.now.variables) c.args.parts.now c.in_ok-part.part c.requires.parts
    (subst (λ (n : ℕ). IsOrderedOver n c.in_ok-part.part) extends.variables c.in_ok-part.ensures.ordered))
