use Rattle.std.proofs.Common.{◌≡◌, ◌<◌, ◌+◌, ◌∙◌, ℕ, List, true, length, ap, subst, sym, arith}
use Rattle.std.proofs.lemmas.Option.{get_or_from_slice_get}
use Rattle.rv_rows.specs.{declared.linear.Row.Row}
use Rattle.rv_diagram.specs.Nodes.{value_of}
use Rattle.rv_diagram.proofs.Growing.{extends_refl, extends_trans}
use Rattle.rv_cases.specs.{Conditions.AreRefs, Conditions.list_at, Questions.rows_at}
use Rattle.rv_cases.proofs.Gathering.{refs_later}
use Rattle.rv_ends.proofs.Stays.{ends_later}
use Rattle.rv_taken.specs.Meeting.{IsExactly, AreRowsOf, AreTestsMet}
use Rattle.rv_taken.proofs.Meetings.{opened_later, rows_of_later, tests_first, tests_step}
use Rattle.rv_taken.proofs.opening.without_tests.Goals as goal

pub without_test-requires-clause-answers : goal.without_test-requires-clause-answers
without_test-requires-clause-answers c =
    let low : c.loop-test.test < length c.args.questions.now.rows = omega (arith, c.loop-test-test.true, c.len-test-end.ensures) in
    let one : list_at c.args.questions.now.questions c.loop-test.test ≡ c.as_slice.result.now =
    get_or_from_slice_get c.args.questions.now.questions c.loop-test.test c.at-answers.result.now _ c.at-answers.ensures.value ∙ sym c.as_slice.ensures in
    subst (λ (l : List ℕ). AreRefs c.loop-test.store.nodes l) one
    (refs_later c.args.store.now c.loop-test.store (list_at c.args.questions.now.questions c.loop-test.test) c.loop-test.invariant.extends
    (c.requires.answers.one c.loop-test.test (omega (arith, c.requires.answers.many))).found)

pub without_test-requires-clause-many : goal.without_test-requires-clause-many
without_test-requires-clause-many c =
    let low : c.loop-test.test < length c.args.questions.now.rows = omega (arith, c.loop-test-test.true, c.len-test-end.ensures) in
    let one : list_at c.args.questions.now.questions c.loop-test.test ≡ c.as_slice.result.now =
    get_or_from_slice_get c.args.questions.now.questions c.loop-test.test c.at-answers.result.now _ c.at-answers.ensures.value ∙ sym c.as_slice.ensures in
    let two : rows_at c.args.questions.now.rows c.loop-test.test ≡ c.at-rows.result.now =
    get_or_from_slice_get c.args.questions.now.rows c.loop-test.test c.at-rows.result.now _ c.at-rows.ensures.value in
    ap (λ (l : List ℕ). length l) (sym one) ∙ c.requires.answers.tests c.loop-test.test low ∙ ap (λ (l : List Row). length l + 1) two

pub without_test-requires-clause-ends : goal.without_test-requires-clause-ends
without_test-requires-clause-ends c =
    ends_later c.args.store.now c.loop-test.store (length c.args.ends.now) c.args.ends.now c.loop-test.invariant.extends c.requires.ends

pub without_test-requires-clause-opened : goal.without_test-requires-clause-opened
without_test-requires-clause-opened c =
    opened_later c.args.store.now c.loop-test.store c.args.ends.now c.args.whole c.loop-test.rest c.loop-test.invariant.extends c.requires.ends
    (λ v on. ((c.loop-test.invariant.exact.means v).0 on).0) c.requires.opened

pub without_test-requires-clause-rows : goal.without_test-requires-clause-rows
without_test-requires-clause-rows c =
    let low : c.loop-test.test < length c.args.questions.now.rows = omega (arith, c.loop-test-test.true, c.len-test-end.ensures) in
    let one : list_at c.args.questions.now.questions c.loop-test.test ≡ c.as_slice.result.now =
    get_or_from_slice_get c.args.questions.now.questions c.loop-test.test c.at-answers.result.now _ c.at-answers.ensures.value ∙ sym c.as_slice.ensures in
    let two : rows_at c.args.questions.now.rows c.loop-test.test ≡ c.at-rows.result.now =
    get_or_from_slice_get c.args.questions.now.rows c.loop-test.test c.at-rows.result.now _ c.at-rows.ensures.value in
    subst (λ (l : List ℕ). AreRowsOf c.loop-test.store.nodes c.args.ends.now c.loop-test.rest l c.at-rows.result.now) one
    (subst (λ (l : List Row). AreRowsOf c.loop-test.store.nodes c.args.ends.now c.loop-test.rest
    (list_at c.args.questions.now.questions c.loop-test.test) l) two
    (rows_of_later c.args.store.now c.loop-test.store c.args.ends.now c.args.whole c.loop-test.rest
    (list_at c.args.questions.now.questions c.loop-test.test) (rows_at c.args.questions.now.rows c.loop-test.test) c.loop-test.invariant.extends
    c.requires.ends (c.requires.answers.one c.loop-test.test (omega (arith, c.requires.answers.many))).found
    (c.requires.answers.tests c.loop-test.test low) (λ v on. ((c.loop-test.invariant.exact.means v).0 on).0) (c.requires.rows c.loop-test.test low)))

pub loop-test-init : goal.loop-test-init
loop-test-init c = record {
  extends = extends_refl c.args.store.now;
  exact = tests_first c.args.store.now.nodes c.args.ends.now c.args.questions.now c.args.whole c.requires.whole;
}

pub loop-test-preserved : goal.loop-test-preserved
loop-test-preserved c =
    let low : c.loop-test.test < length c.args.questions.now.rows = omega (arith, c.loop-test-test.true, c.len-test-end.ensures) in
    let one : list_at c.args.questions.now.questions c.loop-test.test ≡ c.as_slice.result.now =
    get_or_from_slice_get c.args.questions.now.questions c.loop-test.test c.at-answers.result.now _ c.at-answers.ensures.value ∙ sym c.as_slice.ensures in
    let two : rows_at c.args.questions.now.rows c.loop-test.test ≡ c.at-rows.result.now =
    get_or_from_slice_get c.args.questions.now.rows c.loop-test.test c.at-rows.result.now _ c.at-rows.ensures.value in
    record {
      extends = extends_trans c.args.store.now c.loop-test.store c.without_test.new.store c.loop-test.invariant.extends c.in_ok-rest.ensures.extends;
      exact = tests_step c.args.store.now c.loop-test.store c.without_test.new.store.nodes c.args.ends.now c.args.questions.now c.loop-test.test
          c.args.whole c.loop-test.rest c.in_ok-rest.rest c.as_slice.result.now c.at-rows.result.now c.loop-test.invariant.extends c.requires.ends
          c.requires.answers low one two c.loop-test.invariant.exact c.in_ok-rest.ensures.exact;
    }

pub returns-clause-exact : goal.returns-clause-exact
returns-clause-exact c =
    let all : c.loop-test.test ≡ length c.args.questions.now.rows = omega (arith, c.loop-test-test.false, c.len-test-end.ensures) in
    subst (λ (n : ℕ). IsExactly c.loop-test.store.nodes (λ v. (value_of c.args.store.now.nodes c.args.whole v ≡ true)
    × AreTestsMet c.args.store.now.nodes c.args.ends.now c.args.questions.now n v) c.loop-test.rest) all c.loop-test.invariant.exact
