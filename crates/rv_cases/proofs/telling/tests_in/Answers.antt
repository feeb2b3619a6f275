use Rattle.std.proofs.Common.{◌≡◌, ◌<◌, ◌∙◌, ℕ, sym, subst, arith, length, List, [], true}
use Rattle.std.proofs.lemmas.Option.{get_or_from_slice_get}
use Rattle.rv_rows.specs.declared.linear.Row.{Row}
use Rattle.rv_diagram.specs.Nodes.{Valuation, value_of}
use Rattle.rv_cases.specs.Conditions.{is_in, list_at, AreAnswers, HasOneAnswer}
use Rattle.rv_cases.specs.{Questions.rows_at, Telling.AreTold, Telling.IsNoted}
use Rattle.rv_cases.proofs.Tellings.{told_none, told_more}
use Rattle.rv_cases.proofs.telling.tests_in.Goals as goal

pub place_in-place-requires-clause-answers : goal.place_in-place-requires-clause-answers
place_in-place-requires-clause-answers c =
    let low : c.loop-t.t < length c.args.questions.now.questions = omega (arith, c.requires.answers.many) in
    let is : list_at c.args.questions.now.questions c.loop-t.t ≡ c.at-answers.result.now =
    get_or_from_slice_get c.args.questions.now.questions c.loop-t.t c.at-answers.result.now [] c.at-answers.ensures.value in
    subst (λ (l : List ℕ). AreAnswers c.args.store.now.nodes l) (is ∙ sym c.as_slice.ensures) (c.requires.answers.one c.loop-t.t low)

pub loop-t-init : goal.loop-t-init
loop-t-init c condition settled sample s a =
    told_none s (value_of c.args.store.now.nodes condition) c.new-tests.result c.new-rows.result c.new-tests.ensures c.new-rows.ensures

pub loop-t-preserved : goal.loop-t-preserved
loop-t-preserved c condition settled sample s a =
    let low : c.loop-t.t < length c.args.questions.now.questions = omega (arith, c.requires.answers.many) in
    let answers : List ℕ = list_at c.args.questions.now.questions c.loop-t.t in
    let is : answers ≡ c.at-answers.result.now =
    get_or_from_slice_get c.args.questions.now.questions c.loop-t.t c.at-answers.result.now [] c.at-answers.ensures.value in
    let rows_are : rows_at c.args.questions.now.rows c.loop-t.t ≡ c.at-known.result.now =
    get_or_from_slice_get c.args.questions.now.rows c.loop-t.t c.at-known.result.now [] c.at-known.ensures.value in
    let same : c.as_slice.result.now ≡ answers = c.as_slice.ensures ∙ sym is in
    let here = subst (λ (l : List ℕ). (v : Valuation) → value_of c.args.store.now.nodes condition v ≡ true → is_in c.args.store.now.nodes l
    c.place_in-place.result v ≡ true) same
    (c.place_in-place.ensures.throughout condition (subst (λ (l : List ℕ). HasOneAnswer c.args.store.now.nodes condition l) (sym same)
    (settled c.loop-t.t low)) sample) in
    told_more s c.args.store.now.nodes condition c.loop-t.t c.place_in-place.result answers (rows_at c.args.questions.now.rows c.loop-t.t)
    c.loop-t.tests c.note.new.tests c.loop-t.rows c.note.new.rows (a.tests c.loop-t.t (omega (arith, a.many_tests))) here
    (subst (λ (l : List Row). IsNoted c.loop-t.t c.place_in-place.result l c.loop-t.tests c.loop-t.rows c.note.new.tests c.note.new.rows) (sym rows_are)
    c.in_ok-note.ensures)
    (c.loop-t.invariant condition settled sample s a)

pub returns : goal.returns
returns c = record {
  told = λ condition settled sample s a.
      let e : c.loop-t.t ≡ s.tests = omega (arith, a.many_tests) in
      subst (λ (n : ℕ). AreTold s (value_of c.args.store.now.nodes condition) n c.loop-t.tests c.loop-t.rows) e
      (c.loop-t.invariant condition settled sample s a);
}
