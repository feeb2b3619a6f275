use Rattle.std.proofs.Common.{◌≡◌, ◌+◌, ◌<◌, ◌++◌, List, length, map, drop, get_or, ◌∙◌, ap, subst}
use Rattle.rv_tree.specs.Tree.{node_tree, program_tree}
use Rattle.rv_types.specs.declared.typed.Kind.{Kind}
use Rattle.rv_sizes.specs.Memories.{memory_kinds}
use Rattle.rv_instances.proofs.Known.{flows_once}
use Rattle.rv_sizes.proofs.EachNode.{flows_few, read_node, one_more}
use Rattle.rv_sizes.proofs.memories.memories_of.Goals as goal

pub memories_of_node-requires-clause-different : goal.memories_of_node-requires-clause-different
memories_of_node-requires-clause-different c =
    flows_once (program_tree c.args.p.now) c.requires.named (node_tree c.node-item.result) (read_node c.args.p.now.nodes c.as_slice-node-items.result.now
    c.as_slice-node-items.ensures c.loop-node.node-index c.node-item.result c.loop-node-test.true c.node-item.is)

pub memories_of_node-requires-clause-few : goal.memories_of_node-requires-clause-few
memories_of_node-requires-clause-few c =
    flows_few (program_tree c.args.p.now) c.requires.bounded (node_tree c.node-item.result) (read_node c.args.p.now.nodes c.as_slice-node-items.result.now
    c.as_slice-node-items.ensures c.loop-node.node-index c.node-item.result c.loop-node-test.true c.node-item.is)

pub loop-node-preserved : goal.loop-node-preserved
loop-node-preserved c =
    let p = program_tree c.args.p.now in
    let nodes = c.args.p.now.nodes in
    let k = c.loop-node.node-index in
    let x = c.node-item.result in
    let within : k < length nodes = subst (λ n. k < n) (ap length c.as_slice-node-items.ensures) c.loop-node-test.true in
    let is : x ≡ get_or nodes k x = c.node-item.is ∙ (λ i. get_or (c.as_slice-node-items.ensures i) k x) in
    let found : c.in_ok-own.own ≡ memory_kinds p (node_tree x) = c.in_ok-own.ensures p c.requires.tables in
    ap (λ (l : List (List Kind)). l ++ map (memory_kinds p) (map node_tree (drop (k + 1) nodes))) c.in_ok-push.ensures.ok
    ∙ one_more nodes k x within is (memory_kinds p) c.loop-node.kinds c.in_ok-own.own (map (memory_kinds p) (map node_tree nodes)) c.loop-node.invariant found
