use Rattle.std.proofs.Common.{◌≡◌, ◌++◌, map, drop}
use Rattle.rv_tree.specs.Tree.{NodeTree, node_tree, program_tree}
use Rattle.rv_types.specs.Variables.{order_tests}
use Rattle.rv_sizes.specs.Capped.{capped}
use Rattle.rv_sizes.proofs.order_tests.order_tests_of.Given as goal

abbrev pub invariant-loop-node : goal.invariant-loop-node
invariant-loop-node l =
    l.own ++ map (λ (n : NodeTree). capped (order_tests (program_tree l.p) n)) (map node_tree (drop l.node-index l.p.nodes))
    ≡ map (λ (n : NodeTree). capped (order_tests (program_tree l.p) n)) (map node_tree l.p.nodes)
