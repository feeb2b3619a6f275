use Rattle.std.proofs.Common.{◌≡◌, ◌<◌, ◌≤◌, ◌^◌, ◌∙◌, length, subst, sym, arith}
use Rattle.std.proofs.lemmas.Option.{get_or_from_slice_get}
use Rattle.rv_rows.specs.{declared.linear.Form.Form, Forms.FormWithin}
use Rattle.rv_diagram.proofs.Growing.{extends_refl, extends_trans}
use Rattle.rv_proofs.specs.Implied.{form_at}
use Rattle.rv_cases.proofs.Gathering.{refs_later}
use Rattle.rv_ends.proofs.Stays.{ends_later}
use Rattle.rv_taken.proofs.{Meetings.opened_later, Risings.forms_first, Risings.forms_more, Risings.forms_all}
use Rattle.rv_taken.proofs.rising.risen_in.Goals as goal

pub risen_by-requires-clause-ends : goal.risen_by-requires-clause-ends
risen_by-requires-clause-ends c =
    ends_later c.args.store.now c.loop-place.store (length c.args.ends.now) c.args.ends.now c.loop-place.invariant.extends c.requires.ends

pub risen_by-requires-clause-answer : goal.risen_by-requires-clause-answer
risen_by-requires-clause-answer c =
    let low : c.loop-place.place < length c.args.forms.now = omega (arith, c.loop-place-test.true, c.len-place-end.ensures) in
    refs_later c.args.store.now c.loop-place.store c.args.answers.now c.loop-place.invariant.extends c.requires.answers.found c.loop-place.place
    (omega (arith, c.requires.many))

pub risen_by-requires-clause-width : goal.risen_by-requires-clause-width
risen_by-requires-clause-width c =
    let low : c.loop-place.place < length c.args.forms.now = omega (arith, c.loop-place-test.true, c.len-place-end.ensures) in
    let at : form_at c.args.forms.now c.loop-place.place ≡ c.at-form.result.now =
    get_or_from_slice_get c.args.forms.now c.loop-place.place c.at-form.result.now _ c.at-form.ensures.value in
    subst (λ (f : Form). length f.coefficients ≤ length c.args.ends.now) at (c.requires.widths c.loop-place.place _ low)

pub risen_by-requires-clause-size : goal.risen_by-requires-clause-size
risen_by-requires-clause-size c =
    let low : c.loop-place.place < length c.args.forms.now = omega (arith, c.loop-place-test.true, c.len-place-end.ensures) in
    let at : form_at c.args.forms.now c.loop-place.place ≡ c.at-form.result.now =
    get_or_from_slice_get c.args.forms.now c.loop-place.place c.at-form.result.now _ c.at-form.ensures.value in
    subst (λ (f : Form). FormWithin (2 ^ 41) f) at (c.requires.sizes c.loop-place.place _ low)

pub risen_by-requires-clause-opened : goal.risen_by-requires-clause-opened
risen_by-requires-clause-opened c =
    opened_later c.args.store.now c.loop-place.store c.args.ends.now c.args.taken c.args.taken c.loop-place.invariant.extends c.requires.ends
    (λ v on. sym (c.loop-place.invariant.extends.kept c.args.taken c.requires.taken v) ∙ on) c.requires.opened

pub loop-place-init : goal.loop-place-init
loop-place-init c = record {
  extends = extends_refl c.args.store.now;
  risen = forms_first c.args.store.now.nodes c.args.taken c.args.ends.now c.args.answers.now c.args.forms.now c.args.thresholds.now c.args.limit;
}

pub loop-place-preserved : goal.loop-place-preserved
loop-place-preserved c =
    let low : c.loop-place.place < length c.args.forms.now = omega (arith, c.loop-place-test.true, c.len-place-end.ensures) in
    let at : form_at c.args.forms.now c.loop-place.place ≡ c.at-form.result.now =
    get_or_from_slice_get c.args.forms.now c.loop-place.place c.at-form.result.now _ c.at-form.ensures.value in
    record {
      extends = extends_trans c.args.store.now c.loop-place.store c.risen_by.new.store c.loop-place.invariant.extends c.in_ok-held.ensures.extends;
      risen = forms_more c.args.store.now c.loop-place.store c.args.taken c.args.ends.now c.args.answers.now c.args.forms.now c.at-form.result.now
          c.loop-place.place c.args.thresholds.now c.args.limit c.loop-place.held c.in_ok-held.held c.loop-place.invariant.extends c.requires.taken
          (c.requires.answers.found c.loop-place.place (omega (arith, c.requires.many))) c.requires.ends at c.loop-place.invariant.risen
          c.in_ok-held.ensures.risen;
    }

pub returns-clause-risen : goal.returns-clause-risen
returns-clause-risen c = forms_all c.args.store.now.nodes c.args.taken c.args.ends.now c.args.answers.now c.args.forms.now c.loop-place.place
    c.args.thresholds.now c.args.limit c.loop-place.held (omega (arith, c.loop-place-test.false, c.len-place-end.ensures)) c.loop-place.invariant.risen
