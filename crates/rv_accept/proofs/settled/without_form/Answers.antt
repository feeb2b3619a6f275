use Rattle.std.proofs.{Common.ℕ, Common.[], Common.pos, Common.arith, lemmas.Option.get_or_from_slice_get}
use Rattle.rv_diagram.specs.Several.{ref_at}
use Rattle.rv_diagram.proofs.Growing.{extends_refl, extends_trans}
use Rattle.rv_rows.specs.declared.linear.Form.{Form}
use Rattle.rv_proofs.specs.Implied.{form_at}
use Rattle.rv_accept.proofs.{Growing.found_later, Stays.narrow_none, Stays.narrow_more}
use Rattle.rv_accept.proofs.settled.without_form.Goals as goal

pub loop-i-init : goal.loop-i-init
loop-i-init c = record {
  extends = extends_refl c.args.store.now;
  rest = narrow_none (λ (k : ℕ). ref_at c.args.answers.now k) (λ (k : ℕ). form_at c.args.forms.now k) (λ
      (r : Form). r) c.args.store.now c.args.scope c.args.form.now c.requires.scope;
}

pub without_if-requires-clause-b : goal.without_if-requires-clause-b
without_if-requires-clause-b c =
    let e = get_or_from_slice_get c.args.answers.now c.loop-i.i c.at-answer.result.now 0 c.at-answer.ensures.value in
    let found = c.requires.answers c.loop-i.i (omega (arith, c.loop-i-test.true, c.len-i-end.ensures, c.requires.counts)) in
    found_later c.args.store.now c.loop-i.store c.at-answer.result.now c.loop-i.invariant.extends (rw e at found)

pub loop-i-preserved : goal.loop-i-preserved
loop-i-preserved c =
    let e = get_or_from_slice_get c.args.answers.now c.loop-i.i c.at-answer.result.now 0 c.at-answer.ensures.value in
    let found = c.requires.answers c.loop-i.i (omega (arith, c.loop-i-test.true, c.len-i-end.ensures, c.requires.counts)) in
    record {
      extends = extends_trans c.args.store.now c.loop-i.store c.without_if.new.store c.loop-i.invariant.extends c.without_if.ensures.extends;
      rest = narrow_more (λ (k : ℕ). ref_at c.args.answers.now k) (λ (k : ℕ). form_at c.args.forms.now k) (λ
          (r : Form). r) c.args.store.now c.loop-i.store c.without_if.new.store c.args.scope c.loop-i.rest c.in_ok-rest.rest
          c.loop-i.i c.at-answer.result.now c.args.form.now c.at.result.now c.is_form-same.result c.loop-i.invariant.extends e
          (get_or_from_slice_get c.args.forms.now c.loop-i.i c.at.result.now (record {
            coefficients = [];
            constant = pos 0;
          }) c.at.ensures.value) (rw e at found)
          c.is_form-same.ensures c.loop-i.invariant.rest c.in_ok-rest.ensures.ok;
    }

pub returns-clause-ok : goal.returns-clause-ok
returns-clause-ok c = record {
  found = c.loop-i.invariant.rest.found;
  exact = λ v. (
    λ h. let x = (c.loop-i.invariant.rest.exact v).0 h in (x.0, λ i low same. x.1 i (omega (arith, low, c.len-i-end.ensures)) same),
    λ (s, none). (c.loop-i.invariant.rest.exact v).1 (s, λ k low same. none k (omega (arith, low, c.len-i-end.ensures)) same),
  );
}
