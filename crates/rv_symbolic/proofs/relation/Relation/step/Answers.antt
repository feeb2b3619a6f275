use Rattle.std.proofs.Common.{List, subst, sym}
use Rattle.rv_diagram.specs.{Several.ArePartRefs, Several.IsSchedule, declared.store.several.Part.Part}
use Rattle.rv_symbolic.specs.{Linked.quantified, Stepped.IsProjected, Stepped.IsAStep}
use Rattle.rv_symbolic.proofs.Projecting.{forth, copies_above, next_of}
use Rattle.rv_symbolic.proofs.relation.Relation.step.Goals as goal

pub lowered-requires : goal.lowered-requires
lowered-requires c =
    copies_above c.requires.0 c.args.store.now c.args.self.now c.requires.1 (IsAStep c.args.store.now c.args.self.now.parts c.args.self.now.forth
    c.args.from.now) c.in_ok-taken.taken.copies
    (subst (λ (links : List Part). IsProjected c.args.store.now.variables (quantified links) (IsAStep c.args.store.now c.args.self.now.parts
    links c.args.from.now) c.in_ok-taken.taken.copies)
    c.as_slice-links.ensures c.in_ok-taken.ensures.copies)

pub returns-clause-exact : goal.returns-clause-exact
returns-clause-exact c s is control =
    let p = subst (λ (links : List Part). IsProjected c.args.store.now.variables (quantified links) (IsAStep c.args.store.now c.args.self.now.parts
    links c.args.from.now) c.in_ok-taken.taken.copies)
    c.as_slice-links.ensures c.in_ok-taken.ensures.copies in
    next_of s c.args.store.now c.args.self.now is c.args.from.now c.in_ok-taken.taken.copies c.lowered.result c.in_ok-taken.taken.good control p
    c.in_ok-taken.ensures.good c.lowered.ensures.nodes
    (c.lowered.ensures.within c.args.store.now.variables p.ordered) c.lowered.ensures.means

pub take_step-requires-clause-links : goal.take_step-requires-clause-links
take_step-requires-clause-links c =
    subst (λ (links : List Part). ArePartRefs c.args.store.now.nodes links) (sym c.as_slice-links.ensures)
    (forth c.requires.0 c.args.store.now c.args.self.now c.requires.1).refs

pub take_step-requires-clause-schedule : goal.take_step-requires-clause-schedule
take_step-requires-clause-schedule c =
    subst (λ (links : List Part). IsSchedule c.args.store.now.nodes links) (sym c.as_slice-links.ensures)
    (forth c.requires.0 c.args.store.now c.args.self.now c.requires.1).schedule
