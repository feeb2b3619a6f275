use Rattle.std.proofs.Common.{List, subst, sym}
use Rattle.rv_diagram.specs.{declared.store.several.Part.Part, Several.ArePartRefs, Several.IsSchedule}
use Rattle.rv_symbolic.specs.{Linked.AreMet, Linked.quantified, Stepped.IsProjected}
use Rattle.rv_proofs.specs.Scopes.{IsIn}
use Rattle.rv_symbolic.proofs.Projecting.{forth, copies_above, image_of}
use Rattle.rv_symbolic.proofs.relation.Relation.image.Goals as goal

pub returns-clause-exact : goal.returns-clause-exact
returns-clause-exact c s is control case =
    let p = subst (λ (links : List Part). IsProjected c.args.store.now.variables (quantified links)
    (λ w. IsIn c.args.from.now w × IsIn c.args.case.now.condition w × AreMet c.args.store.now.nodes links w)
    c.in_ok-copies.copies) c.as_slice-links.ensures c.in_ok-copies.ensures.ok in
    image_of s c.args.store.now c.args.self.now is c.args.from.now c.args.case.now c.in_ok-copies.copies c.lowered.result control case p c.lowered.ensures.nodes
    (c.lowered.ensures.within c.args.store.now.variables p.ordered) c.lowered.ensures.means

pub projected-answer-requires-clause-links : goal.projected-answer-requires-clause-links
projected-answer-requires-clause-links c =
    subst (λ (links : List Part). ArePartRefs c.args.store.now.nodes links) (sym c.as_slice-links.ensures)
    (forth c.requires.0 c.args.store.now c.args.self.now c.requires.1).refs

pub projected-answer-requires-clause-schedule : goal.projected-answer-requires-clause-schedule
projected-answer-requires-clause-schedule c =
    subst (λ (links : List Part). IsSchedule c.args.store.now.nodes links) (sym c.as_slice-links.ensures)
    (forth c.requires.0 c.args.store.now c.args.self.now c.requires.1).schedule

pub lowered-requires : goal.lowered-requires
lowered-requires c =
    copies_above c.requires.0 c.args.store.now c.args.self.now c.requires.1
    (λ w. IsIn c.args.from.now w × IsIn c.args.case.now.condition w × AreMet c.args.store.now.nodes c.args.self.now.forth w) c.in_ok-copies.copies
    (subst (λ (links : List Part). IsProjected c.args.store.now.variables (quantified links)
    (λ w. IsIn c.args.from.now w × IsIn c.args.case.now.condition w × AreMet c.args.store.now.nodes links w)
    c.in_ok-copies.copies) c.as_slice-links.ensures c.in_ok-copies.ensures.ok)
