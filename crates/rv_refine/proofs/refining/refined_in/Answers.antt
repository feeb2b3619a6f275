use Rattle.std.proofs.Common.{ℕ, sym, subst, ◌∙◌}
use Rattle.rv_diagram.specs.Nodes.{Diagrams, IsOrderedOver}
use Rattle.rv_diagram.specs.Growing.{Extends}
use Rattle.rv_refine.proofs.Judging.{given_after}
use Rattle.rv_refine.proofs.refining.refined_in.Goals as goal

pub refined_over-requires-clause-given : goal.refined_over-requires-clause-given
refined_over-requires-clause-given c =
    let (s, given) = c.requires.given in
    let grown : Extends c.args.store.now c.parts_of.new.store = subst (λ (d : Diagrams). Extends d c.parts_of.new.store) c.without.ensures.same
    c.parts_of.ensures.extends in
    (s, given_after s c.args.store.now c.parts_of.new.store c.args.relation.now c.args.questions.now grown given)

pub refined_over-requires-clause-first : goal.refined_over-requires-clause-first
refined_over-requires-clause-first c =
    let (s, given) = c.requires.given in
    let of = given.relation in
    let parts = of.parts in
    let grown : Extends c.args.store.now c.parts_of.new.store = subst (λ (d : Diagrams). Extends d c.parts_of.new.store) c.without.ensures.same
    c.parts_of.ensures.extends in
    let first = c.in_ok-first.ensures s of in
    let control = first.control in
    subst (λ (n : ℕ). IsOrderedOver n c.in_ok-first.first) (sym (grown.variables ∙ parts.variables)) control.ordered

pub returns-clause-accepted : goal.returns-clause-accepted
returns-clause-accepted c s given =
    let grown : Extends c.args.store.now c.parts_of.new.store = subst (λ (d : Diagrams). Extends d c.parts_of.new.store) c.without.ensures.same
    c.parts_of.ensures.extends in
    c.refined_over.ensures.accepted s (given_after s c.args.store.now c.parts_of.new.store c.args.relation.now c.args.questions.now grown given)
