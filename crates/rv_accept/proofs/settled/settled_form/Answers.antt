use Rattle.std.proofs.Common.{◌≡◌, ◌<◌, ℕ, sym, subst, true, false, [], pos, length, arith}
use Rattle.std.proofs.lemmas.Option.{get_or_from_slice_get}
use Rattle.rv_diagram.specs.{Nodes.value_of, Nodes.valuation_of, Several.ref_at}
use Rattle.rv_rows.specs.declared.linear.Form.{Form}
use Rattle.rv_proofs.specs.Implied.{form_at}
use Rattle.rv_cases.specs.Conditions.{is_in}
use Rattle.rv_accept.specs.Steps.{IsTrueOf}
use Rattle.rv_accept.proofs.Stays.{settled_here, unsettled, form_right, form_all, form_or}
use Rattle.rv_base.proofs.Truths.{clash}
use Rattle.rv_accept.proofs.settled.settled_form.Goals as goal

pub at-requires : goal.at-requires
at-requires c = omega (arith, c.answer_at-place.ensures.known, c.requires.counts)

pub returns-then-is_false-clause-exact : goal.returns-then-is_false-clause-exact
returns-then-is_false-clause-exact c = λ s t are.
    let e = get_or_from_slice_get c.args.forms.now c.answer_at-place.result c.at.result.now (record {
      coefficients = [];
      constant = pos 0;
    }) c.at.ensures.value in
    record {
      some = (valuation_of c.args.point.now, c.requires.point);
      same = settled_here (λ (k : ℕ). ref_at c.args.answers.now k) (λ (k : ℕ). form_at c.args.forms.now k) (λ
          (f : Form). f) c.args.store.now c.without_form.new.store
          (length c.args.forms.now) (λ v. s.update v t) c.args.scope c.in_ok-rest.rest c.answer_at-place.result
          (form_right s c.args.store.now.nodes t c.args.answers.now c.args.forms.now are)
          (subst (λ (f : Form). IsTrueOf c.without_form.new.store (λ v. (value_of c.args.store.now.nodes c.args.scope v ≡ true)
          × ((i : ℕ) → i < length c.args.forms.now → form_at c.args.forms.now i ≡ f
          → is_in c.args.store.now.nodes c.args.answers.now i v ≡ false)) c.in_ok-rest.rest) (sym e) c.in_ok-rest.ensures.ok)
          form_or (c.is_false.ensures.0 c.if-is_false.true);
    }

pub returns-else-is_false-clause-exact : goal.returns-else-is_false-clause-exact
returns-else-is_false-clause-exact c = λ s t are r still.
    let e = get_or_from_slice_get c.args.forms.now c.answer_at-place.result c.at.result.now (record {
      coefficients = [];
      constant = pos 0;
    }) c.at.ensures.value in
    unsettled (λ (k : ℕ). ref_at c.args.answers.now k) (λ (k : ℕ). form_at c.args.forms.now k) (λ (f : Form). f) c.args.store.now c.without_form.new.store
    (length c.args.forms.now) (λ v. s.update v t) c.args.scope c.in_ok-rest.rest c.answer_at-place.result
    (form_right s c.args.store.now.nodes t c.args.answers.now c.args.forms.now are)
    (subst (λ (f : Form). IsTrueOf c.without_form.new.store (λ v. (value_of c.args.store.now.nodes c.args.scope v ≡ true)
    × ((i : ℕ) → i < length c.args.forms.now → form_at c.args.forms.now i ≡ f
    → is_in c.args.store.now.nodes c.args.answers.now i v ≡ false)) c.in_ok-rest.rest) (sym e) c.in_ok-rest.ensures.ok)
    (valuation_of c.args.point.now) c.requires.point (omega (arith, c.answer_at-place.ensures.known, c.requires.counts)) c.answer_at-place.ensures.met
    (form_all s c.args.store.now.nodes t c.args.answers.now c.args.forms.now are c.requires.answers c.requires.counts)
    (λ x y e. e) (λ none. clash c.is_false.result (c.is_false.ensures.1 none) c.if-is_false.false) r still.same
