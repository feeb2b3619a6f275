use Rattle.std.proofs.Common.{◌≡◌, ℕ, ◌+◌, ◌<◌, true, [], List, length, arith, subst, sym}
use Rattle.std.proofs.lemmas.Option.{get_or_from_slice_get}
use Rattle.rv_diagram.specs.Nodes.{value_of}
use Rattle.rv_diagram.proofs.Growing.{extends_refl, extends_trans}
use Rattle.rv_rows.specs.declared.linear.Row.{Row}
use Rattle.rv_symbolic.specs.Growing.{Finds}
use Rattle.rv_cases.specs.{Conditions.AreRefs, Conditions.list_at, Questions.rows_at}
use Rattle.rv_open.specs.Given.{HoldAmong, HoldOfTests}
use Rattle.rv_open.proofs.Rest.{tests_start, tests_more, refs_there, test_refs, test_many}
use Rattle.rv_open.proofs.counting.open_in.Goals as goal

pub loop-test-init : goal.loop-test-init
loop-test-init c = record {
  extends = extends_refl c.args.store.now;
  left = tests_start c.args.store.now c.args.from c.args.questions.now c.requires.from;
}

pub at-answers-requires : goal.at-answers-requires
at-answers-requires c =
    let (s, of) = c.requires.questions in
    let a = of.answers in
    let many = a.many in
    omega (arith, many, c.loop-test-test.true, c.len-test-end.ensures)

pub without_rows-requires-clause-from : goal.without_rows-requires-clause-from
without_rows-requires-clause-from c = let x = c.loop-test.invariant.left in x.found

pub without_rows-requires-clause-answers : goal.without_rows-requires-clause-answers
without_rows-requires-clause-answers c =
    let (s, of) = c.requires.questions in
    let q = c.args.questions.now in
    let low : c.loop-test.test < length q.rows = omega (arith, c.loop-test-test.true, c.len-test-end.ensures) in
    let is : list_at q.questions c.loop-test.test ≡ c.at-answers.result.now =
    get_or_from_slice_get q.questions c.loop-test.test c.at-answers.result.now [] c.at-answers.ensures.value in
    subst (λ (l : List ℕ). AreRefs c.loop-test.store.nodes l) is
    (refs_there c.args.store.now c.loop-test.store (list_at q.questions c.loop-test.test) c.loop-test.invariant.extends
    (test_refs s c.args.store.now q of c.loop-test.test low))

pub without_rows-requires-clause-many : goal.without_rows-requires-clause-many
without_rows-requires-clause-many c =
    let (s, of) = c.requires.questions in
    let q = c.args.questions.now in
    let low : c.loop-test.test < length q.rows = omega (arith, c.loop-test-test.true, c.len-test-end.ensures) in
    let is : list_at q.questions c.loop-test.test ≡ c.at-answers.result.now =
    get_or_from_slice_get q.questions c.loop-test.test c.at-answers.result.now [] c.at-answers.ensures.value in
    let rows_are : rows_at q.rows c.loop-test.test ≡ c.at-rows.result.now =
    get_or_from_slice_get q.rows c.loop-test.test c.at-rows.result.now [] c.at-rows.ensures.value in
    subst (λ (l : List Row). length c.at-answers.result.now ≡ length l + 1) rows_are
    (subst (λ (l : List ℕ). length l ≡ length (rows_at q.rows c.loop-test.test) + 1) is (test_many s c.args.store.now q of c.loop-test.test low))

pub loop-test-preserved : goal.loop-test-preserved
loop-test-preserved c =
    let (s, of) = c.requires.questions in
    let q = c.args.questions.now in
    let low : c.loop-test.test < length q.rows = omega (arith, c.loop-test-test.true, c.len-test-end.ensures) in
    let is : c.at-answers.result.now ≡ list_at q.questions c.loop-test.test =
    sym (get_or_from_slice_get q.questions c.loop-test.test c.at-answers.result.now [] c.at-answers.ensures.value) in
    let rows_are : c.at-rows.result.now ≡ rows_at q.rows c.loop-test.test =
    sym (get_or_from_slice_get q.rows c.loop-test.test c.at-rows.result.now [] c.at-rows.ensures.value) in
    let more : Finds c.loop-test.store c.without_rows.new.store (λ v. (value_of c.loop-test.store.nodes c.loop-test.rest v ≡ true)
    × HoldAmong c.loop-test.store.nodes (list_at q.questions c.loop-test.test) (rows_at q.rows c.loop-test.test) (length
    (rows_at q.rows c.loop-test.test)) v) c.in_ok-rest.rest =
    subst (λ (l : List Row). Finds c.loop-test.store c.without_rows.new.store (λ v. (value_of c.loop-test.store.nodes c.loop-test.rest v ≡ true)
    × HoldAmong c.loop-test.store.nodes (list_at q.questions c.loop-test.test) l (length l) v) c.in_ok-rest.rest) rows_are
    (subst (λ (l : List ℕ). Finds c.loop-test.store c.without_rows.new.store (λ v. (value_of c.loop-test.store.nodes c.loop-test.rest v ≡ true)
    × HoldAmong c.loop-test.store.nodes l c.at-rows.result.now (length c.at-rows.result.now) v) c.in_ok-rest.rest) is c.in_ok-rest.ensures.left) in
    record {
      extends = extends_trans c.args.store.now c.loop-test.store c.without_rows.new.store c.loop-test.invariant.extends c.without_rows.ensures.extends;
      left = tests_more c.args.store.now c.loop-test.store c.without_rows.new.store c.args.from c.loop-test.rest c.in_ok-rest.rest c.loop-test.test q
          (test_refs s c.args.store.now q of c.loop-test.test low) (test_many s c.args.store.now q of c.loop-test.test low) c.loop-test.invariant.left more;
    }

pub returns-clause-left : goal.returns-clause-left
returns-clause-left c =
    let e : c.loop-test.test ≡ length c.args.questions.now.rows = omega (arith, c.loop-test-test.false, c.loop-test.auto, c.len-test-end.ensures) in
    subst (λ (n : ℕ). Finds c.args.store.now c.loop-test.store
    (λ v. (value_of c.args.store.now.nodes c.args.from v ≡ true) × HoldOfTests c.args.store.now.nodes c.args.questions.now n v) c.loop-test.rest) e
    c.loop-test.invariant.left
