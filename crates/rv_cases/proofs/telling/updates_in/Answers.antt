use Rattle.std.proofs.Common.{◌≡◌, ◌+◌, ◌<◌, ◌∙◌, ℕ, ap, sym, subst, arith, length, List, [], true, slice_get, Some}
use Rattle.std.proofs.lemmas.Option.{get_or_from_slice_get}
use Rattle.rv_rows.specs.declared.linear.Form.{Form}
use Rattle.rv_diagram.specs.Nodes.{Valuation, value_of}
use Rattle.rv_cases.specs.Conditions.{is_in, list_at, AreAnswers, HasOneAnswer}
use Rattle.rv_cases.specs.{Questions.forms_at, Questions.memory_answers, Telling.AreUpdated}
use Rattle.rv_cases.proofs.Tellings.{updated_none, updated_more}
use Rattle.rv_cases.proofs.telling.updates_in.Goals as goal

pub place_in-place-requires-clause-answers : goal.place_in-place-requires-clause-answers
place_in-place-requires-clause-answers c =
    let low : c.len-first.result + c.loop-k.k < length c.args.questions.now.questions = omega (arith, c.requires.answers.many) in
    let is : list_at c.args.questions.now.questions (c.len-first.result + c.loop-k.k) ≡ c.at-answers.result.now =
    get_or_from_slice_get c.args.questions.now.questions (c.len-first.result + c.loop-k.k) c.at-answers.result.now [] c.at-answers.ensures.value in
    subst (λ (l : List ℕ). AreAnswers c.args.store.now.nodes l) (is ∙ sym c.as_slice.ensures)
    (c.requires.answers.one (c.len-first.result + c.loop-k.k) low)

pub loop-k-init : goal.loop-k-init
loop-k-init c condition settled sample s a =
    updated_none s (value_of c.args.store.now.nodes condition) c.new-updates.result c.new-updates.ensures

pub loop-k-preserved : goal.loop-k-preserved
loop-k-preserved c condition settled sample s a =
    let low : c.len-first.result + c.loop-k.k < length c.args.questions.now.questions = omega (arith, c.requires.answers.many) in
    let known : c.loop-k.k < length c.args.questions.now.forms = omega arith in
    let answers : List ℕ = memory_answers c.args.questions.now c.loop-k.k in
    let named : list_at c.args.questions.now.questions (c.len-first.result + c.loop-k.k) ≡ answers =
    ap (λ (n : ℕ). list_at c.args.questions.now.questions (n + c.loop-k.k)) c.len-first.ensures in
    let is : answers ≡ c.at-answers.result.now = sym named
    ∙ get_or_from_slice_get c.args.questions.now.questions (c.len-first.result + c.loop-k.k) c.at-answers.result.now [] c.at-answers.ensures.value in
    let forms_are : forms_at c.args.questions.now.forms c.loop-k.k ≡ c.at-known.result.now =
    get_or_from_slice_get c.args.questions.now.forms c.loop-k.k c.at-known.result.now [] c.at-known.ensures.value in
    let same : c.as_slice.result.now ≡ answers = c.as_slice.ensures ∙ sym is in
    let here = subst (λ (l : List ℕ). (v : Valuation) → value_of c.args.store.now.nodes condition v ≡ true → is_in c.args.store.now.nodes l
    c.place_in-place.result v ≡ true) same
    (c.place_in-place.ensures.throughout condition (subst (λ (l : List ℕ). HasOneAnswer c.args.store.now.nodes condition l) (named ∙ sym same)
    (settled (c.len-first.result + c.loop-k.k) low)) sample) in
    let got : slice_get (forms_at c.args.questions.now.forms c.loop-k.k) c.place_in-place.result ≡ Some c.at.result.now =
    ap (λ (l : List Form). slice_get l c.place_in-place.result) forms_are ∙ c.at.ensures.value in
    updated_more s (value_of c.args.store.now.nodes condition) c.loop-k.k c.loop-k.updates c.push.new.self c.in_ok-form.form
    (λ v on. (a.updates c.loop-k.k (omega (arith, a.many_memories))).becomes c.place_in-place.result c.at.result.now v got (here v on)
    ∙ sym c.in_ok-form.ensures)
    c.in_ok-push.ensures.ok (c.loop-k.invariant condition settled sample s a)

pub returns : goal.returns
returns c = record {
  updated = λ condition settled sample s a.
      let e : c.loop-k.k ≡ s.memories = omega (arith, a.many_memories) in
      subst (λ (n : ℕ). AreUpdated s (value_of c.args.store.now.nodes condition) n c.loop-k.updates) e
      (c.loop-k.invariant condition settled sample s a);
}
