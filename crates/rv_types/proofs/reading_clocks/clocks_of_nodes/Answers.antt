use Rattle.rv_tree.specs.Tree.{node_tree}
use Rattle.rv_types.proofs.NodeFlows.{mapped_there}
use Rattle.rv_types.proofs.reading_clocks.clocks_of_nodes.Goals as goal

pub node_clocks-requires : goal.node_clocks-requires
node_clocks-requires c =
    let right = c.requires (node_tree c.node-item.result) (mapped_there node_tree c.args.nodes.now c.loop-node.node-index c.node-item.result
    c.loop-node-test.true c.node-item.is) in
    record { different = right.0; few = right.1 }
