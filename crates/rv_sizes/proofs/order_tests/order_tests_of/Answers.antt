use Rattle.std.proofs.Common.{◌≡◌, ℕ, ◌+◌, ◌<◌, ◌++◌, List, length, map, drop, get_or, ◌∙◌, ap, subst}
use Rattle.rv_tree.specs.Tree.{NodeTree, node_tree, program_tree}
use Rattle.rv_types.specs.Variables.{order_tests}
use Rattle.rv_sizes.specs.Capped.{capped}
use Rattle.rv_instances.proofs.Known.{flows_once}
use Rattle.rv_sizes.proofs.EachNode.{flows_few, read_node, one_more}
use Rattle.rv_sizes.proofs.order_tests.order_tests_of.Goals as goal

pub order_tests_of_node-requires-clause-different : goal.order_tests_of_node-requires-clause-different
order_tests_of_node-requires-clause-different c =
    flows_once (program_tree c.args.p.now) c.requires.named (node_tree c.node-item.result) (read_node c.args.p.now.nodes c.as_slice-node-items.result.now
    c.as_slice-node-items.ensures c.loop-node.node-index c.node-item.result c.loop-node-test.true c.node-item.is)

pub order_tests_of_node-requires-clause-few : goal.order_tests_of_node-requires-clause-few
order_tests_of_node-requires-clause-few c =
    flows_few (program_tree c.args.p.now) c.requires.bounded (node_tree c.node-item.result) (read_node c.args.p.now.nodes c.as_slice-node-items.result.now
    c.as_slice-node-items.ensures c.loop-node.node-index c.node-item.result c.loop-node-test.true c.node-item.is)

pub loop-node-preserved : goal.loop-node-preserved
loop-node-preserved c =
    let p = program_tree c.args.p.now in
    let nodes = c.args.p.now.nodes in
    let k = c.loop-node.node-index in
    let x = c.node-item.result in
    let within : k < length nodes = subst (λ n. k < n) (ap length c.as_slice-node-items.ensures) c.loop-node-test.true in
    let is : x ≡ get_or nodes k x = c.node-item.is ∙ (λ i. get_or (c.as_slice-node-items.ensures i) k x) in
    let there = read_node nodes c.as_slice-node-items.result.now c.as_slice-node-items.ensures k x c.loop-node-test.true c.node-item.is in
    let found : c.in_ok-count.count ≡ capped (order_tests p (node_tree x)) =
    c.in_ok-count.ensures p c.requires.tables (c.requires.well.formed (node_tree x) there)
    (c.requires.well.typed (node_tree x) there) in
    ap (λ (l : List ℕ). l ++ map (λ (n : NodeTree). capped (order_tests p n)) (map node_tree (drop (k + 1) nodes))) c.in_ok-push.ensures.ok
    ∙ one_more nodes k x within is (λ (n : NodeTree). capped (order_tests p n)) c.loop-node.own c.in_ok-count.count
    (map (λ (n : NodeTree). capped (order_tests p n)) (map node_tree nodes)) c.loop-node.invariant found
