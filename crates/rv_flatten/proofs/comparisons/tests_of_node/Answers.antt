use Rattle.std.proofs.Common.{◌≡◌, ◌∙◌, ap, List, map, flat_map, IfOk, subst}
use Rattle.rv_instances.specs.Timed.{operator_listed}
use Rattle.rv_flatten.specs.{declared.comparisons.Tested.Tested, Compared.is_told_test, Compared.own_test}
use Rattle.rv_flatten.proofs.comparisons.tests_of_node.Goals as goal

pub returns : goal.returns
returns c p tables apart =
    let scope = c.in_ok-reader.ensures.scope p tables apart in
    let operators = ap (map operator_listed) c.as_slice.ensures ∙ c.in_ok-operators.ensures.operators in
    subst (λ (l : List Tested). IfOk c.tests_among.result (λ tested. tested ≡ l))
    (λ i. flat_map (own_test (is_told_test (scope i))) (operators i)) c.tests_among.ensures
