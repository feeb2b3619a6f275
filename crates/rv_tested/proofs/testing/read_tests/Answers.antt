use Rattle.std.proofs.Common.{◌≡◌, ◌+◌, ◌-◌, ◌∙◌, ◌++◌, ◌∷◌, ℕ, List, [], length, map, ap, sym, subst, arith}
use Rattle.std.proofs.lemmas.List.{length-map}
use Rattle.rv_rows.specs.declared.linear.Row.{Row}
use Rattle.rv_flat.specs.{declared.parts.Bit.Bit, Lists.variable_of}
use Rattle.rv_tested.specs.Testing.{AreTestsRead}
use Rattle.rv_control.specs.{Control.order_tests, Named.variables_of}
use Rattle.rv_diagram.proofs.Growing.{extends_refl, extends_trans}
use Rattle.rv_tested.proofs.{Following.none_read, Following.one_test_more, Following.test_answered, Following.variable_there, Siding.all_later}
use Rattle.rv_tested.proofs.testing.read_tests.Goals as goal

pub loop-number-init : goal.loop-number-init
loop-number-init c = record {
  extends = extends_refl c.args.store.now;
  tests = none_read c.args.flat.now c.args.store.now.nodes c.new-questions.result c.new-rows.result c.new-questions.ensures c.new-rows.ensures;
}

pub read_variable-requires-clause-read : goal.read_variable-requires-clause-read
read_variable-requires-clause-read c = all_later c.args.flat.now c.args.store.now c.loop-number.store c.args.compared.now c.args.sides.now
    c.loop-number.invariant.extends c.requires.read

pub at-variable-requires : goal.at-variable-requires
at-variable-requires c =
    let most = c.count_tests-many.ensures.most in
    let size = ap (λ (l : List Bit). length l) c.as_slice.ensures in
    let many = c.len.ensures in
    omega (arith, most, size, many)

pub loop-number-preserved : goal.loop-number-preserved
loop-number-preserved c =
    let f = c.args.flat.now in
    let new = c.read_variable.new.store in
    let n = c.loop-number.number in
    let one : c.push.new.self ≡ c.loop-number.questions ++ c.in_ok-answers.answers.refs ∷ [] = c.in_ok-push.ensures.ok in
    let two : c.push-in-loop-number.new.self ≡ c.loop-number.rows ++ c.in_ok-answers.answers.rows ∷ [] = c.in_ok-push-2.ensures.ok in
    let size = ap (λ (l : List Bit). length l) c.as_slice.ensures in
    let counted : c.count_tests-many.result ≡ order_tests (variables_of f) =
    c.count_tests-many.ensures.is ∙ ap (λ (l : List Bit). order_tests (map variable_of l)) c.as_slice.ensures in
    let wide : length (variables_of f) ≡ length f.variables = length-map f.variables variable_of in
    let place = c.len.ensures in
    record {
      extends = extends_trans c.args.store.now c.loop-number.store new c.loop-number.invariant.extends c.in_ok-answers.ensures.extends;
      tests = subst (λ (q : List (List ℕ)). AreTestsRead f new.nodes (n + 1) q c.push-in-loop-number.new.self) (sym one)
          (subst (λ (r : List (List Row)). AreTestsRead f new.nodes (n + 1) (c.loop-number.questions ++ c.in_ok-answers.answers.refs ∷ []) r) (sym two)
          (one_test_more f c.loop-number.store new n c.loop-number.questions c.loop-number.rows c.in_ok-answers.answers c.in_ok-answers.ensures.extends
          c.loop-number.invariant.tests
          (test_answered f new.nodes n (variable_of c.at-variable.result.now) c.in_ok-answers.answers
          (variable_there f (c.len.result - c.count_tests-many.result + n) n c.at-variable.result.now c.at-variable.ensures.value
          (let e : c.len.result - c.count_tests-many.result + n ≡ length (variables_of f) - order_tests (variables_of f) + n =
          omega (arith, counted, wide, place) in e) (let most = c.count_tests-many.ensures.most in omega (arith, most, size, place)))
          c.in_ok-answers.ensures.ok)));
    }

pub returns-clause-ok : goal.returns-clause-ok
returns-clause-ok c =
    let f = c.args.flat.now in
    let counted : c.count_tests-many.result ≡ order_tests (variables_of f) =
    c.count_tests-many.ensures.is ∙ ap (λ (l : List Bit). order_tests (map variable_of l)) c.as_slice.ensures in
    let all : c.loop-number.number ≡ order_tests (variables_of f) = omega (arith, counted) in
    subst (λ n. AreTestsRead f c.loop-number.store.nodes n c.loop-number.questions c.loop-number.rows) all c.loop-number.invariant.tests
