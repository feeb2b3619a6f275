use Rattle.std.proofs.Common.{◌≡◌, ◌+◌, ◌<◌, ◌∙◌, ℕ, List, [], true, length, ap, sym, subst, arith, Some, slice_get}
use Rattle.std.proofs.lemmas.Option.{slice_get_within, get_or_from_slice_get}
use Rattle.rv_diagram.specs.{Several.ref_at}
use Rattle.rv_diagram.proofs.Growing.{extends_trans}
use Rattle.rv_rows.specs.declared.linear.Row.{Row}
use Rattle.rv_cases.specs.{Conditions.is_in, Conditions.AreRefs, Conditions.list_at, Questions.rows_at}
use Rattle.rv_ends.specs.{Columns.IsFit, Cuts.AreCut, Cuts.MeetsFirst, Cuts.MeetsTests, Sides.AreEnds}
use Rattle.rv_ends.proofs.Within.{cut_as, cut_both}
use Rattle.rv_ends.proofs.Taking.{meets_later, refs_later, tests_more, asked_refs, asked_many, answer_fits, ends_of_tests}
use Rattle.rv_ends.proofs.ends.test_ends.Goals as goal

pub take_test-requires-clause-answers : goal.take_test-requires-clause-answers
take_test-requires-clause-answers c =
    let t : ℕ = c.loop-test.test in
    let q = c.args.questions.now in
    let known : t < length q.rows = slice_get_within q.rows t c.at-rows.result.now c.at-rows.ensures.value in
    let is : list_at q.questions t ≡ c.as_slice.result.now =
    get_or_from_slice_get q.questions t c.at-answers.result.now [] c.at-answers.ensures.value ∙ sym c.as_slice.ensures in
    refs_later c.args.store.now c.loop-test.store c.as_slice.result.now c.loop-test.invariant.extends
    (subst (λ (l : List ℕ). AreRefs c.args.store.now.nodes l) is (asked_refs c.requires.0 c.requires.1 c.args.store.now q c.requires.2 t known))

pub take_test-requires-clause-many : goal.take_test-requires-clause-many
take_test-requires-clause-many c =
    let t : ℕ = c.loop-test.test in
    let q = c.args.questions.now in
    let known : t < length q.rows = slice_get_within q.rows t c.at-rows.result.now c.at-rows.ensures.value in
    let is : list_at q.questions t ≡ c.as_slice.result.now =
    get_or_from_slice_get q.questions t c.at-answers.result.now [] c.at-answers.ensures.value ∙ sym c.as_slice.ensures in
    let rows : rows_at q.rows t ≡ c.at-rows.result.now = get_or_from_slice_get q.rows t c.at-rows.result.now [] c.at-rows.ensures.value in
    sym (ap (λ (l : List ℕ). length l) is) ∙ asked_many c.requires.0 c.requires.1 c.args.store.now q c.requires.2 t known
    ∙ ap (λ (l : List Row). length l + 1) rows

pub take_test-requires-clause-fit : goal.take_test-requires-clause-fit
take_test-requires-clause-fit c i r v got on =
    let t : ℕ = c.loop-test.test in
    let q = c.args.questions.now in
    let old = c.args.store.now.nodes in
    let known : t < length q.rows = slice_get_within q.rows t c.at-rows.result.now c.at-rows.ensures.value in
    let is : list_at q.questions t ≡ c.as_slice.result.now =
    get_or_from_slice_get q.questions t c.at-answers.result.now [] c.at-answers.ensures.value ∙ sym c.as_slice.ensures in
    let rows : rows_at q.rows t ≡ c.at-rows.result.now = get_or_from_slice_get q.rows t c.at-rows.result.now [] c.at-rows.ensures.value in
    let here : slice_get (rows_at q.rows t) i ≡ Some r = ap (λ (l : List Row). slice_get l i) rows ∙ got in
    let low : i < length (rows_at q.rows t) = slice_get_within (rows_at q.rows t) i r here in
    let many : length (list_at q.questions t) ≡ length (rows_at q.rows t) + 1 = asked_many c.requires.0 c.requires.1 c.args.store.now q c.requires.2 t known in
    let found = asked_refs c.requires.0 c.requires.1 c.args.store.now q c.requires.2 t known (i + 1) (omega (arith, low, many)) in
    let holding : is_in old (list_at q.questions t) (i + 1) v ≡ true =
    sym (c.loop-test.invariant.extends.kept (ref_at (list_at q.questions t) (i + 1)) found v)
    ∙ ap (λ (l : List ℕ). is_in c.loop-test.store.nodes l (i + 1) v) is ∙ on in
    subst (λ (n : ℕ). IsFit n r) (c.requires.3 ∙ sym c.loop-test.invariant.ends.size)
    (answer_fits c.requires.0 c.requires.1 c.args.store.now q c.requires.2 t i r v known here holding)

pub loop-test-preserved : goal.loop-test-preserved
loop-test-preserved c =
    let t : ℕ = c.loop-test.test in
    let q = c.args.questions.now in
    let old = c.args.store.now.nodes in
    let known : t < length q.rows = slice_get_within q.rows t c.at-rows.result.now c.at-rows.ensures.value in
    let answers = c.as_slice.result.now in
    let rows = c.at-rows.result.now in
    let is : list_at q.questions t ≡ answers =
    get_or_from_slice_get q.questions t c.at-answers.result.now [] c.at-answers.ensures.value ∙ sym c.as_slice.ensures in
    let rows_is : rows_at q.rows t ≡ rows = get_or_from_slice_get q.rows t rows [] c.at-rows.ensures.value in
    let refs : AreRefs old answers = subst (λ (l : List ℕ). AreRefs old l) is (asked_refs c.requires.0 c.requires.1 c.args.store.now q c.requires.2 t known) in
    let many : length answers ≡ length rows + 1 =
    sym (ap (λ (l : List ℕ). length l) is) ∙ asked_many c.requires.0 c.requires.1 c.args.store.now q c.requires.2 t known
    ∙ ap (λ (l : List Row). length l + 1) rows_is in
    record {
      extends = extends_trans c.args.store.now c.loop-test.store c.take_test.new.store c.loop-test.invariant.extends c.in_ok-take_test.ensures.extends;
      ends = subst (λ (n : ℕ). AreEnds c.take_test.new.store.nodes n c.take_test.new.ends) c.loop-test.invariant.ends.size c.in_ok-take_test.ensures.ends;
      exact = cut_as old c.take_test.new.store.nodes c.in_ok-ends.ends c.take_test.new.ends
          (λ v point. MeetsTests old q t v point × MeetsFirst c.loop-test.store.nodes answers rows (length rows) v point)
          (MeetsTests old q (t + 1))
          (λ v point.
          let later = meets_later c.args.store.now c.loop-test.store answers rows v point c.loop-test.invariant.extends refs many in
          let more = tests_more old q t answers rows v point is rows_is in (
            λ h. more.0 (h.0, later.0 h.1),
            λ h. let p = more.1 h in (p.0, later.1 p.1),
          ))
          (cut_both old c.loop-test.store.nodes c.take_test.new.store.nodes c.in_ok-ends.ends c.loop-test.ends c.take_test.new.ends
          (MeetsTests old q t) (MeetsFirst c.loop-test.store.nodes answers rows (length rows))
          c.loop-test.invariant.exact c.in_ok-take_test.ensures.exact);
    }

pub returns-clause-ends : goal.returns-clause-ends
returns-clause-ends c s is asked wide =
    let all : c.loop-test.test ≡ length c.args.questions.now.rows =
    omega (arith, c.loop-test-test.false, c.loop-test.auto.test-end, c.len-test-end.ensures) in
    ends_of_tests s is c.args.store.now c.args.questions.now asked c.loop-test.store.nodes c.in_ok-ends.ends c.loop-test.ends
    (c.in_ok-ends.ensures.size ∙ sym wide) c.in_ok-ends.ensures.free
    (subst (λ (n : ℕ). AreEnds c.loop-test.store.nodes n c.loop-test.ends) (sym wide) c.loop-test.invariant.ends)
    (subst (λ (n : ℕ). AreCut c.args.store.now.nodes c.loop-test.store.nodes c.in_ok-ends.ends c.loop-test.ends (MeetsTests c.args.store.now.nodes
    c.args.questions.now n)) all c.loop-test.invariant.exact)
