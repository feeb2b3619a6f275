use Rattle.std.proofs.Common.{List, subst, sym}
use Rattle.rv_diagram.specs.{Nodes.IsOrderedOver, Nodes.Diagrams, Several.ArePartRefs, Several.IsSchedule, declared.store.several.Part.Part}
use Rattle.rv_symbolic.specs.{Linked.AreMet, Linked.quantified, Stepped.IsProjected}
use Rattle.rv_proofs.specs.Scopes.{IsIn}
use Rattle.rv_symbolic.proofs.{Extending.map_ok, Projecting.back, Projecting.copied_control, Projecting.raised_ordered, Projecting.preimage_of}
use Rattle.rv_symbolic.proofs.relation.Relation.preimage.Goals as goal

pub projected-answer-requires-clause-set : goal.projected-answer-requires-clause-set
projected-answer-requires-clause-set c =
    subst (λ (d : Diagrams). IsOrderedOver d.variables c.raised-copies.result) (sym c.copied.ensures.same)
    (raised_ordered c.requires.0 c.args.store.now c.args.self.now c.requires.1 c.in_ok-bits.bits c.raised-copies.result
    (copied_control c.requires.0 c.args.store.now c.args.self.now c.requires.1 c.args.to.now c.in_ok-bits.bits c.requires.2 c.in_ok-bits.ensures.ordered
    c.in_ok-bits.ensures.needed)
    (c.raised-copies.ensures.ordered c.args.store.now.variables c.in_ok-bits.ensures.ordered) c.raised-copies.ensures.nodes)

pub returns-clause-exact : goal.returns-clause-exact
returns-clause-exact c s is control case =
    map_ok c.projected-answer.result (IsProjected c.copied.new.store.variables (quantified c.as_slice-links.result.now)
    (λ w. IsIn c.raised-copies.result w × IsIn c.args.case.now.condition w × AreMet c.copied.new.store.nodes c.as_slice-links.result.now w)) _
    (λ f p. let q = subst (λ (links : List Part). IsProjected c.copied.new.store.variables (quantified links)
    (λ w. IsIn c.raised-copies.result w × IsIn c.args.case.now.condition w × AreMet c.copied.new.store.nodes links w)
    f) c.as_slice-links.ensures p in
    preimage_of s c.args.store.now c.args.self.now is c.args.to.now c.args.case.now c.in_ok-bits.bits c.raised-copies.result f control case
    c.in_ok-bits.ensures.means
    c.raised-copies.ensures.means
    (subst (λ (d : Diagrams). IsProjected d.variables (quantified c.args.self.now.back)
    (λ w. IsIn c.raised-copies.result w × IsIn c.args.case.now.condition w × AreMet d.nodes c.args.self.now.back w) f)
    c.copied.ensures.same q))
    c.projected-answer.ensures.ok

pub projected-answer-requires-clause-links : goal.projected-answer-requires-clause-links
projected-answer-requires-clause-links c =
    subst (λ (d : Diagrams). ArePartRefs d.nodes c.as_slice-links.result.now) (sym c.copied.ensures.same)
    (subst (λ (links : List Part). ArePartRefs c.args.store.now.nodes links) (sym c.as_slice-links.ensures)
    (back c.requires.0 c.args.store.now c.args.self.now c.requires.1).refs)

pub projected-answer-requires-clause-schedule : goal.projected-answer-requires-clause-schedule
projected-answer-requires-clause-schedule c =
    subst (λ (d : Diagrams). IsSchedule d.nodes c.as_slice-links.result.now) (sym c.copied.ensures.same)
    (subst (λ (links : List Part). IsSchedule c.args.store.now.nodes links) (sym c.as_slice-links.ensures)
    (back c.requires.0 c.args.store.now c.args.self.now c.requires.1).schedule)
