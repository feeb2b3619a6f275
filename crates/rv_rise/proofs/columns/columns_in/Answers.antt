use Rattle.std.proofs.Common.{◌≡◌, ◌≢◌, ◌⊎◌, ℕ, inl, inr, length, arith, sym, ap, ◌∙◌}
use Rattle.std.proofs.{lemmas.Bool.cases_eq, lemmas.Bool.false_from_ne_true, lemmas.Option.get_or_from_slice_get}
use Rattle.rv_diagram.specs.Nodes.{value_of}
use Rattle.rv_diagram.specs.Several.{ref_at}
use Rattle.rv_base.proofs.Truths.{clash}
use Rattle.rv_rise.proofs.Widths.{none_more, some_given}
use Rattle.rv_rise.proofs.columns.columns_in.Goals as goal

pub loop-place-init : goal.loop-place-init
loop-place-init c = λ i v l on. absurd (omega (arith, l))

pub loop-place-preserved : goal.loop-place-preserved
loop-place-preserved c =
    let at : ref_at c.args.answers.now c.loop-place.place ≡ c.at-answer.result.now =
    get_or_from_slice_get c.args.answers.now c.loop-place.place c.at-answer.result.now _ c.at-answer.ensures.value in
    none_more c.args.store.now.nodes c.args.answers.now c.loop-place.place c.loop-place.invariant
    (λ v on. clash (value_of c.args.store.now.nodes c.at-answer.result.now v) (sym (ap (λ (r : ℕ). value_of c.args.store.now.nodes r v) at) ∙ on)
    (c.if-is_given.ensures v))

pub returns-then-is_given : goal.returns-then-is_given
returns-then-is_given c n each = c.len.ensures ∙ go (cases_eq (length c.at-form.result.now.coefficients) n)
  where
    at : ref_at c.args.answers.now c.loop-place.place ≡ c.at-answer.result.now
    at = get_or_from_slice_get c.args.answers.now c.loop-place.place c.at-answer.result.now _ c.at-answer.ensures.value

    go : (length c.at-form.result.now.coefficients ≡ n) ⊎ (length c.at-form.result.now.coefficients ≢ n) → length c.at-form.result.now.coefficients ≡ n
    go (inl e) = e
    go (inr ne) = absurd (c.if-is_given.ensures (λ v. false_from_ne_true (value_of c.args.store.now.nodes c.at-answer.result.now v)
        (λ on. ne (each c.loop-place.place c.at-form.result.now v c.at-form.ensures.value
        (ap (λ (r : ℕ). value_of c.args.store.now.nodes r v) at ∙ on)))))

pub returns : goal.returns
returns c n each = absurd (some_given c.args.store.now.nodes c.args.answers.now c.requires.answers c.loop-place.place
    (omega (arith, c.requires.many, c.loop-place-test.false, c.loop-place.auto, c.len-place-end.ensures)) c.loop-place.invariant)
