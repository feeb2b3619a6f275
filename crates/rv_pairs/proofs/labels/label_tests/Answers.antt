use Rattle.std.proofs.Common.{◌≡◌, ◌<◌, ◌+◌, ◌++◌, ◌∙◌, ℕ, suc, List, [], length, ap, sym, subst, arith}
use Rattle.std.proofs.lemmas.Option.{get_or_from_slice_get}
use Rattle.rv_rows.specs.declared.linear.Row.{Row}
use Rattle.rv_proofs.specs.Systems.{System, rows_among, held_row}
use Rattle.rv_cases.specs.{Conditions.list_at, Conditions.AreAnswers, Questions.rows_at, Questions.AreTestAnswers}
use Rattle.rv_pairs.proofs.Counting.{given_small}
use Rattle.rv_pairs.proofs.labels.label_tests.Goals as goal

pub label_test-requires-clause-answers : goal.label_test-requires-clause-answers
label_test-requires-clause-answers c =
    let asked = c.requires.2 in
    let low : c.loop-test.test < length c.args.questions.now.questions = omega (arith, asked.answers.many) in
    let is : list_at c.args.questions.now.questions c.loop-test.test ≡ c.at-answers.result.now =
    get_or_from_slice_get c.args.questions.now.questions c.loop-test.test c.at-answers.result.now [] c.at-answers.ensures.value in
    subst (λ (l : List ℕ). AreAnswers c.args.store.now.nodes l) (is ∙ sym c.as_slice.ensures) (asked.answers.one c.loop-test.test low)

pub label_test-requires-clause-many : goal.label_test-requires-clause-many
label_test-requires-clause-many c =
    let asked = c.requires.2 in
    let is : list_at c.args.questions.now.questions c.loop-test.test ≡ c.at-answers.result.now =
    get_or_from_slice_get c.args.questions.now.questions c.loop-test.test c.at-answers.result.now [] c.at-answers.ensures.value in
    let rows_are : rows_at c.args.questions.now.rows c.loop-test.test ≡ c.at-rows.result.now =
    get_or_from_slice_get c.args.questions.now.rows c.loop-test.test c.at-rows.result.now [] c.at-rows.ensures.value in
    ap (λ (l : List ℕ). length l) (c.as_slice.ensures ∙ sym is) ∙ asked.answers.tests c.loop-test.test (omega arith)
    ∙ ap (λ (l : List Row). length l + 1) rows_are

pub label_test-requires-clause-rows : goal.label_test-requires-clause-rows
label_test-requires-clause-rows c =
    let s : System = c.requires.0 in
    let asked = c.requires.2 in
    let is : list_at c.args.questions.now.questions c.loop-test.test ≡ c.at-answers.result.now =
    get_or_from_slice_get c.args.questions.now.questions c.loop-test.test c.at-answers.result.now [] c.at-answers.ensures.value in
    let rows_are : rows_at c.args.questions.now.rows c.loop-test.test ≡ c.at-rows.result.now =
    get_or_from_slice_get c.args.questions.now.rows c.loop-test.test c.at-rows.result.now [] c.at-rows.ensures.value in
    let low : c.loop-test.test < s.tests = omega (arith, asked.many_tests) in
    given_small s c.args.store.now.nodes c.loop-test.test c.as_slice.result.now c.at-rows.result.now c.requires.1 low
    (subst (λ (l : List ℕ). AreTestAnswers s c.args.store.now.nodes c.loop-test.test l c.at-rows.result.now) (is ∙ sym c.as_slice.ensures)
    (subst (λ (l : List Row). AreTestAnswers s c.args.store.now.nodes c.loop-test.test (list_at c.args.questions.now.questions c.loop-test.test) l) rows_are
    (asked.tests c.loop-test.test low)))

pub loop-test-preserved : goal.loop-test-preserved
loop-test-preserved c = record {
  labels = c.in_ok-label_test.ensures.labels;
  rows = λ s asked v.
      let is : list_at c.args.questions.now.questions c.loop-test.test ≡ c.at-answers.result.now =
      get_or_from_slice_get c.args.questions.now.questions c.loop-test.test c.at-answers.result.now [] c.at-answers.ensures.value in
      let rows_are : rows_at c.args.questions.now.rows c.loop-test.test ≡ c.at-rows.result.now =
      get_or_from_slice_get c.args.questions.now.rows c.loop-test.test c.at-rows.result.now [] c.at-rows.ensures.value in
      let low : c.loop-test.test < s.tests = omega (arith, asked.many_tests) in
      let next : suc c.loop-test.test ≡ c.loop-test.test + 1 = omega arith in
      c.in_ok-label_test.ensures.rows s c.loop-test.test
      (subst (λ (l : List ℕ). AreTestAnswers s c.args.store.now.nodes c.loop-test.test l c.at-rows.result.now) (is ∙ sym c.as_slice.ensures)
      (subst (λ (l : List Row). AreTestAnswers s c.args.store.now.nodes c.loop-test.test (list_at c.args.questions.now.questions c.loop-test.test) l) rows_are
      (asked.tests c.loop-test.test low))) v
      ∙ ap (λ (rs : List Row). rs ++ held_row (s.row v c.loop-test.test)) (c.loop-test.invariant.rows s asked v) ∙ ap (rows_among s v) next;
}
