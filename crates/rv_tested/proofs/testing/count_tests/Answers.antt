use Rattle.std.proofs.Common.{◌≡◌, ◌∙◌, ◌+◌, ◌∷◌, [], List, suc, drop, map, ap, sym, arith}
use Rattle.std.proofs.{Math.ListN.drop_of_length-le, Math.Seq.drop-cons}
use Rattle.rv_flat.specs.{declared.parts.Bit.Bit, Lists.variable_of}
use Rattle.rv_control.specs.Control.{order_tests}
use Rattle.rv_tested.proofs.Following.{tests_more, no_tests, at_most_one}
use Rattle.rv_tested.proofs.testing.count_tests.Goals as goal

pub overflow_add-count : goal.overflow_add-count
overflow_add-count c =
    let few = at_most_one (variable_of c.variable-item.result) in
    omega (arith, c.one_of-count.ensures, few, c.loop-variable.invariant.most)

pub loop-variable-preserved : goal.loop-variable-preserved
loop-variable-preserved c =
    let vs = c.args.variables.now in
    let i = c.loop-variable.variable-index in
    let x = c.variable-item.result in
    let left : drop i vs ≡ x ∷ drop (i + 1) vs = drop-cons vs i x c.loop-variable-test.true
    ∙ (λ k. sym c.variable-item.is k ∷ drop (let z : suc i ≡ i + 1 = omega arith in z k) vs) in
    let more : order_tests (map variable_of (drop i vs)) ≡ order_tests (variable_of x ∷ []) + order_tests (map variable_of (drop (i + 1) vs)) =
    ap (λ (l : List Bit). order_tests (map variable_of l)) left ∙ tests_more (variable_of x) (map variable_of (drop (i + 1) vs)) in
    let few = at_most_one (variable_of x) in
    record {
      counted = omega (arith, c.one_of-count.ensures, more, c.loop-variable.invariant.counted);
      most = omega (arith, c.one_of-count.ensures, few, c.loop-variable.invariant.most);
    }

pub returns-clause-is : goal.returns-clause-is
returns-clause-is c =
    let vs = c.args.variables.now in
    let gone : drop c.loop-variable.variable-index vs ≡ [] = drop_of_length-le vs (omega arith) in
    let none : order_tests (map variable_of (drop c.loop-variable.variable-index vs)) ≡ 0 = ap (λ (l : List Bit). order_tests (map variable_of l)) gone
    ∙ no_tests in
    omega (arith, none, c.loop-variable.invariant.counted)
