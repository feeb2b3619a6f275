use Rattle.std.proofs.Common.{Bool, List, subst, sym, inl, inr}
use Rattle.rv_diagram.specs.Nodes.{Diagrams}
use Rattle.rv_cases.specs.Questions.{AreQuestions}
use Rattle.rv_accept.specs.Needs.{HasMovingRow, HasMovingForm, AreStillRows, AreStillForms}
use Rattle.rv_accept.proofs.facts.facts_of.Goals as goal

pub returns-in_default-clause-exact : goal.returns-in_default-clause-exact
returns-in_default-clause-exact c = λ s is are.
    let h = rw c.in_default.is at (c.in_ok-rows.ensures.exact s is are) in
    inl (subst (λ (l : List Bool). HasMovingRow s c.args.store.now.nodes c.args.scope l) c.as_slice-named.ensures.value h)

pub returns-in_default-2-clause-exact : goal.returns-in_default-2-clause-exact
returns-in_default-2-clause-exact c = λ s is are.
    let h = rw c.in_default-2.is at (c.in_ok-forms.ensures.exact s is (subst (λ (d : Diagrams). AreQuestions s d c.args.questions.now)
    (sym c.still_rows.ensures.same) are)) in
    inr (subst (λ (l : List Bool). HasMovingForm s c.args.store.now.nodes c.args.scope l) c.as_slice-moved.ensures.value
    (subst (λ (d : Diagrams). HasMovingForm s d.nodes c.args.scope c.as_slice-moved.result.now) c.still_rows.ensures.same h))

pub returns-clause-exact : goal.returns-clause-exact
returns-clause-exact c = λ s is are.
    let r = rw c.in-Some.is at (c.in_ok-rows.ensures.exact s is are) in
    let f = rw c.in-Some-2.is at (c.in_ok-forms.ensures.exact s is (subst (λ (d : Diagrams). AreQuestions s d c.args.questions.now)
    (sym c.still_rows.ensures.same) are)) in (
      subst (λ (l : List Bool). AreStillRows s c.args.store.now.nodes c.args.scope l c.in-Some.rows) c.as_slice-named.ensures.value r,
      subst (λ (l : List Bool). AreStillForms s c.args.store.now.nodes c.args.scope l c.in-Some-2.forms) c.as_slice-moved.ensures.value
          (subst (λ (d : Diagrams). AreStillForms s d.nodes c.args.scope c.as_slice-moved.result.now c.in-Some-2.forms) c.still_rows.ensures.same f),
    )
