use Rattle.std.proofs.Common.{◌≡◌, List, map, ◌∙◌, ap}
use Rattle.rv_tree.specs.declared.tree.Node as declared
use Rattle.rv_tree.specs.Tree.{node_tree}
use Rattle.rv_types.specs.{Readings.view_of, Tables.scope_of}
use Rattle.rv_instances.specs.{Timed.operator_listed, Timed.operators_told, declared.timed.ClockedOperator.ClockedOperator}
use Rattle.rv_sizes.proofs.Tested.{tested}
use Rattle.rv_sizes.proofs.order_tests.order_tests_of_node.Goals as goal

pub returns : goal.returns
returns c p t formed typed =
    let n = node_tree c.args.node.now in
    let operators : map operator_listed c.as_slice.result.now ≡ operators_told n =
    ap (λ (os : List ClockedOperator). map operator_listed os) c.as_slice.ensures ∙ c.in_ok-operators.ensures.operators
    ∙ ap (λ (m : declared.Node). operators_told (node_tree m)) c.in_ok-clocks.ensures in
    c.tests_among.ensures
    ∙ tested p n formed typed (scope_of (view_of c.args.tables.now c.in_ok-own.own)) (map operator_listed c.as_slice.result.now)
    (c.in_ok-own.ensures.scope p t c.requires.different) operators
