use Rattle.std.proofs.Common.{◌≡◌, ◌<◌, ◌∙◌, ap, sym, subst, length, ℕ, arith, ⊎_elim}
use Rattle.std.proofs.{lemmas.List.get_or_read, lemmas.Bool.cases_lt}
use Rattle.rv_terms.specs.declared.parted.Part.{Part}
use Rattle.rv_terms.specs.Parts.{no_form, part_at, chosen_form, AreClasses, HasForm, IsTerm, term_width}
use Rattle.rv_terms.proofs.Classes.{classes_as, filled_trans, lacks_before, chosen_later, has_as, err_moved}
use Rattle.rv_terms.proofs.Combining.{term_later}
use Rattle.rv_diagram.specs.declared.store.StoreFault.{StoreFault}
use Rattle.rv_diagram.proofs.Growing.{extends_trans}
use Rattle.rv_terms.proofs.calls.add_forms.Goals as goal

pub add_form-requires-clause-yes : goal.add_form-requires-clause-yes
add_form-requires-clause-yes c =
    let low : c.loop-part.part-index < length c.args.from.now = omega arith in
    let is : c.part-item.result ≡ part_at c.args.from.now c.loop-part.part-index =
    get_or_read c.args.from.now c.loop-part.part-index c.part-item.result low c.part-item.is (record { under = 0; form = no_form }) in
    let wide : length c.part-item.result.form.coefficients ≡ term_width c.args.yes.now =
    ap (λ (x : Part). length x.form.coefficients) is ∙ c.requires.widths c.loop-part.part-index low in
    subst (λ (n : ℕ). IsTerm c.loop-part.store.nodes n c.args.yes.now) (sym wide)
    (term_later c.args.store.now c.loop-part.store (term_width c.args.yes.now) c.args.yes.now c.loop-part.invariant.extends c.requires.yes)

pub add_form-requires-clause-no : goal.add_form-requires-clause-no
add_form-requires-clause-no c =
    let low : c.loop-part.part-index < length c.args.from.now = omega arith in
    let is : c.part-item.result ≡ part_at c.args.from.now c.loop-part.part-index =
    get_or_read c.args.from.now c.loop-part.part-index c.part-item.result low c.part-item.is (record { under = 0; form = no_form }) in
    let wide : length c.part-item.result.form.coefficients ≡ term_width c.args.yes.now =
    ap (λ (x : Part). length x.form.coefficients) is ∙ c.requires.widths c.loop-part.part-index low in
    subst (λ (n : ℕ). IsTerm c.loop-part.store.nodes n c.args.no.now) (sym wide)
    (term_later c.args.store.now c.loop-part.store (term_width c.args.yes.now) c.args.no.now c.loop-part.invariant.extends c.requires.no)

pub add_form-requires-clause-parts : goal.add_form-requires-clause-parts
add_form-requires-clause-parts c =
    let low : c.loop-part.part-index < length c.args.from.now = omega arith in
    let is : c.part-item.result ≡ part_at c.args.from.now c.loop-part.part-index =
    get_or_read c.args.from.now c.loop-part.part-index c.part-item.result low c.part-item.is (record { under = 0; form = no_form }) in
    let wide : length c.part-item.result.form.coefficients ≡ term_width c.args.yes.now =
    ap (λ (x : Part). length x.form.coefficients) is ∙ c.requires.widths c.loop-part.part-index low in
    subst (λ (n : ℕ). AreClasses c.loop-part.store.nodes n (chosen_form c.loop-part.store.nodes c.args.test c.args.yes.now c.args.no.now) c.loop-part.parts)
    (sym wide)
    (classes_as c.loop-part.store.nodes (term_width c.args.yes.now) (chosen_form c.args.store.now.nodes c.args.test c.args.yes.now c.args.no.now)
    (chosen_form c.loop-part.store.nodes c.args.test c.args.yes.now c.args.no.now) c.loop-part.parts
    (λ v. sym (chosen_later c.args.store.now c.loop-part.store (term_width c.args.yes.now) c.args.test c.args.yes.now c.args.no.now
    c.loop-part.invariant.extends c.requires.test c.requires.yes c.requires.no v)) c.loop-part.invariant.parts)

pub returns-in-Err-clause-room : goal.returns-in-Err-clause-room
returns-in-Err-clause-room c h = lacks_before c.args.store.now c.loop-part.store c.args.parts.now c.loop-part.parts c.loop-part.invariant.extends.variables
    c.loop-part.invariant.extends.limit c.loop-part.invariant.growth (c.in-Err.ensures.room (err_moved c.in-Err.fault StoreFault.Nodes h))

pub loop-part-preserved : goal.loop-part-preserved
loop-part-preserved c =
    let low : c.loop-part.part-index < length c.args.from.now = omega arith in
    let is : c.part-item.result ≡ part_at c.args.from.now c.loop-part.part-index =
    get_or_read c.args.from.now c.loop-part.part-index c.part-item.result low c.part-item.is (record { under = 0; form = no_form }) in
    let wide : length c.part-item.result.form.coefficients ≡ term_width c.args.yes.now =
    ap (λ (x : Part). length x.form.coefficients) is ∙ c.requires.widths c.loop-part.part-index low in
    record {
      extends = extends_trans c.args.store.now c.loop-part.store c.add_form.new.store c.loop-part.invariant.extends c.in-Ok.ensures.extends;
      parts = classes_as c.add_form.new.store.nodes (term_width c.args.yes.now)
          (chosen_form c.loop-part.store.nodes c.args.test c.args.yes.now c.args.no.now)
          (chosen_form c.args.store.now.nodes c.args.test c.args.yes.now c.args.no.now) c.add_form.new.parts
          (chosen_later c.args.store.now c.loop-part.store (term_width c.args.yes.now) c.args.test c.args.yes.now c.args.no.now
          c.loop-part.invariant.extends c.requires.test c.requires.yes c.requires.no)
          (subst (λ (n : ℕ). AreClasses c.add_form.new.store.nodes n (chosen_form c.loop-part.store.nodes c.args.test c.args.yes.now c.args.no.now)
          c.add_form.new.parts) wide c.in-Ok.ensures.parts);
      has = λ k lt v e. ⊎_elim
          (λ less. let h : HasForm c.loop-part.parts (part_at c.args.from.now k).form = c.loop-part.invariant.has k less v e in
          has_as c.add_form.new.parts (part_at c.loop-part.parts h.0).form (part_at c.args.from.now k).form h.2 (c.in-Ok.ensures.stays h.0 h.1))
          (λ more. let same : k ≡ c.loop-part.part-index = omega arith in
          let form : c.part-item.result.form ≡ (part_at c.args.from.now k).form =
          ap (λ (x : Part). x.form) is ∙ ap (λ n. (part_at c.args.from.now n).form) (sym same) in
          has_as c.add_form.new.parts c.part-item.result.form (part_at c.args.from.now k).form form
          (c.in-Ok.ensures.has v (chosen_later c.args.store.now c.loop-part.store (term_width c.args.yes.now) c.args.test c.args.yes.now c.args.no.now
          c.loop-part.invariant.extends c.requires.test c.requires.yes c.requires.no v ∙ e ∙ sym form)))
          (cases_lt k c.loop-part.part-index);
      stays = λ j lt. let h : HasForm c.loop-part.parts (part_at c.args.parts.now j).form = c.loop-part.invariant.stays j lt in
          has_as c.add_form.new.parts (part_at c.loop-part.parts h.0).form (part_at c.args.parts.now j).form h.2 (c.in-Ok.ensures.stays h.0 h.1);
      growth = filled_trans c.args.store.now c.loop-part.store c.add_form.new.store c.args.parts.now c.loop-part.parts c.add_form.new.parts
          c.loop-part.invariant.extends.variables
          c.loop-part.invariant.growth c.in-Ok.ensures.growth;
    }
