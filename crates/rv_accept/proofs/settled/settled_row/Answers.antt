use Rattle.std.proofs.Common.{◌≡◌, ◌∙◌, ◌+◌, ◌-◌, ◌<◌, ℕ, sym, subst, Some, true, false, [], pos, length, arith}
use Rattle.std.proofs.lemmas.Option.{none-some, same_Some, get_or_from_slice_get}
use Rattle.rv_diagram.specs.{Nodes.value_of, Nodes.valuation_of, Several.ref_at}
use Rattle.rv_rows.specs.{declared.linear.Row.Row, Rows.row_at}
use Rattle.rv_cases.specs.Conditions.{is_in}
use Rattle.rv_accept.specs.Steps.{IsTrueOf}
use Rattle.rv_accept.proofs.Stays.{settled_here, unsettled, test_right, test_all, row_or}
use Rattle.rv_base.proofs.Truths.{clash}
use Rattle.rv_accept.proofs.settled.settled_row.Goals as goal

pub returns-then-place-eq0-clause-exact : goal.returns-then-place-eq0-clause-exact
returns-then-place-eq0-clause-exact c = λ s t are r still.
    let on : is_in c.args.store.now.nodes c.args.answers.now 0 (valuation_of c.args.point.now) ≡ true =
    subst (λ (n : ℕ). is_in c.args.store.now.nodes c.args.answers.now n
    (valuation_of c.args.point.now) ≡ true) c.if-place-eq0.true c.answer_at-place.ensures.met in
    none-some r (sym (are.absent (valuation_of c.args.point.now) on) ∙ still.same (valuation_of c.args.point.now) c.requires.point)

pub at-requires : goal.at-requires
at-requires c = omega (arith, c.answer_at-place.ensures.known, c.requires.counts, c.if-place-eq0.false)

pub returns-then-is_false-clause-exact : goal.returns-then-is_false-clause-exact
returns-then-is_false-clause-exact c = λ s t are.
    let e = get_or_from_slice_get c.args.rows.now (c.answer_at-place.result - 1) c.at.result.now (record {
      coefficients = [];
      bound = pos 0;
    }) c.at.ensures.value in
    record {
      some = (valuation_of c.args.point.now, c.requires.point);
      same = settled_here (λ (k : ℕ). ref_at c.args.answers.now (k + 1)) (λ (k : ℕ). row_at c.args.rows.now k) (λ
          (r : Row). Some r) c.args.store.now c.without_row.new.store
          (length c.args.rows.now) (λ v. s.row v t) c.args.scope c.in_ok-rest.rest (c.answer_at-place.result - 1)
          (test_right s c.args.store.now.nodes t c.args.answers.now c.args.rows.now are)
          (subst (λ (r : Row). IsTrueOf c.without_row.new.store (λ v. (value_of c.args.store.now.nodes c.args.scope v ≡ true)
          × ((i : ℕ) → i < length c.args.rows.now → row_at c.args.rows.now i ≡ r
          → is_in c.args.store.now.nodes c.args.answers.now (i + 1) v ≡ false)) c.in_ok-rest.rest) (sym e) c.in_ok-rest.ensures.ok)
          row_or (c.is_false.ensures.0 c.if-is_false.true);
    }

pub returns-else-is_false-clause-exact : goal.returns-else-is_false-clause-exact
returns-else-is_false-clause-exact c = λ s t are r still.
    let e = get_or_from_slice_get c.args.rows.now (c.answer_at-place.result - 1) c.at.result.now (record {
      coefficients = [];
      bound = pos 0;
    }) c.at.ensures.value in
    let place : c.answer_at-place.result ≡ (c.answer_at-place.result - 1) + 1 = omega (arith, c.if-place-eq0.false) in
    unsettled (λ (k : ℕ). ref_at c.args.answers.now (k + 1)) (λ (k : ℕ). row_at c.args.rows.now k) (λ
    (r : Row). Some r) c.args.store.now c.without_row.new.store
    (length c.args.rows.now) (λ v. s.row v t) c.args.scope c.in_ok-rest.rest (c.answer_at-place.result - 1)
    (test_right s c.args.store.now.nodes t c.args.answers.now c.args.rows.now are)
    (subst (λ (r : Row). IsTrueOf c.without_row.new.store (λ v. (value_of c.args.store.now.nodes c.args.scope v ≡ true)
    × ((i : ℕ) → i < length c.args.rows.now → row_at c.args.rows.now i ≡ r
    → is_in c.args.store.now.nodes c.args.answers.now (i + 1) v ≡ false)) c.in_ok-rest.rest) (sym e) c.in_ok-rest.ensures.ok)
    (valuation_of c.args.point.now) c.requires.point (omega (arith, c.answer_at-place.ensures.known, c.requires.counts, c.if-place-eq0.false))
    (subst (λ (n : ℕ). is_in c.args.store.now.nodes c.args.answers.now n (valuation_of c.args.point.now) ≡ true) place c.answer_at-place.ensures.met)
    (test_all s c.args.store.now.nodes t c.args.answers.now c.args.rows.now are c.requires.answers c.requires.counts)
    (λ x y e. same_Some x y e) (λ none. clash c.is_false.result (c.is_false.ensures.1 none) c.if-is_false.false) r still.same
