use Rattle.std.proofs.Common.{◌∙◌, sym, subst, List, ℕ, MatchOption}
use Rattle.rv_diagram.specs.Nodes.{Diagrams, IsOrderedOver}
use Rattle.rv_proofs.specs.Systems.{System}
use Rattle.rv_symbolic.proofs.Extending.{map_ok}
use Rattle.rv_accept.specs.{Passing.IsGiven, Judging.IsMarked}
use Rattle.rv_accept.proofs.Judgment.{not_initial, judged_of}
use Rattle.rv_accept.proofs.judging.judgment.Goals as goal

pub initial_word-requires : goal.initial_word-requires
initial_word-requires c = let (s, g) = c.requires.given in record { given = (s, g.held, g.range) }

pub are_apart-requires : goal.are_apart-requires
are_apart-requires c = let (s, g) = c.requires.given in λ k l at.
    subst (λ (d : Diagrams). IsOrderedOver d.variables l.control) (sym c.initial_word.ensures.same)
    (subst (λ (m : ℕ). IsOrderedOver m l.control) (sym g.held.means.variables) (g.range.locations k l at).control.ordered)

pub left_locations-requires : goal.left_locations-requires
left_locations-requires c = let (s, g) = c.requires.given in record {
  given = (
    s,
    subst (λ (d : Diagrams). IsGiven s d c.args.parts.now c.args.questions.now c.args.certificate.now) (sym (c.are_apart.ensures.same
        ∙ c.initial_word.ensures.same)) g,
  );
}

pub returns-in-Some-clause-exact : goal.returns-in-Some-clause-exact
returns-in-Some-clause-exact c = λ s g left m. not_initial s c.args.certificate.now c.in-Some.field-0
    (rw c.in-Some.is at (c.in_ok-missing.ensures.exact s g.held g.range))
    m.partition.initial

pub returns-then-not-apart-clause-exact : goal.returns-then-not-apart-clause-exact
returns-then-not-apart-clause-exact c = λ s g left m. let not = rw c.if-not-apart.true at c.in_ok-apart.ensures.exact in not m.apart

pub returns-clause-exact : goal.returns-clause-exact
returns-clause-exact c =
    map_ok c.left_locations.result _ (λ o. (s : System) → IsGiven s c.args.store.now c.args.parts.now c.args.questions.now c.args.certificate.now
    → MatchOption o ((left : List ℕ) → IsMarked s c.args.certificate.now left → ⊥) (IsMarked s c.args.certificate.now))
    (λ o h s g. judged_of s c.args.certificate.now o g.range (rw c.in_default.is at (c.in_ok-missing.ensures.exact s g.held g.range))
    (rw c.if-not-apart.false at c.in_ok-apart.ensures.exact)
    (h s (subst (λ (d : Diagrams). IsGiven s d c.args.parts.now c.args.questions.now c.args.certificate.now)
    (sym (c.are_apart.ensures.same ∙ c.initial_word.ensures.same)) g)))
    c.left_locations.ensures.exact
