use Rattle.std.proofs.Common.{List, subst, sym}
use Rattle.rv_diagram.specs.{Several.ArePartRefs, declared.store.several.Part.Part}
use Rattle.rv_symbolic.specs.Words.{IsFirstOf, LeadsAt}
use Rattle.rv_symbolic.proofs.{Extending.map_ok, Projecting.forth, Wording.leading_least}
use Rattle.rv_symbolic.proofs.relation.Relation.leading.Goals as goal

pub returns-clause-exact : goal.returns-clause-exact
returns-clause-exact c s is control =
    map_ok c.first_leading-answer.result (IsFirstOf c.args.store.now.variables (LeadsAt c.args.store.now.nodes c.args.self.now.parts.allowed
    c.as_slice-links.result.now c.args.from.now c.args.to.now c.len-bits.result)) _
    (λ o h. leading_least s c.args.store.now c.args.self.now is c.args.from.now c.args.to.now c.len-bits.result o c.len-bits.ensures control
    (subst (λ (links : List Part). IsFirstOf c.args.store.now.variables (LeadsAt c.args.store.now.nodes c.args.self.now.parts.allowed
    links c.args.from.now c.args.to.now c.len-bits.result) o) c.as_slice-links.ensures h))
    c.first_leading-answer.ensures.first

pub first_leading-answer-requires-clause-links : goal.first_leading-answer-requires-clause-links
first_leading-answer-requires-clause-links c =
    subst (λ (links : List Part). ArePartRefs c.args.store.now.nodes links) (sym c.as_slice-links.ensures)
    (forth c.requires.0 c.args.store.now c.args.self.now c.requires.1).refs
