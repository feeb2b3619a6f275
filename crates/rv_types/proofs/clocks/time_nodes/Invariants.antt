use Rattle.std.proofs.Common.{◌≡◌, map, take, flat_map}
use Rattle.rv_tree.specs.Tree.{node_tree}
use Rattle.rv_types.specs.{Clocks.flow_clocks, Clocks.clocks_in_node, Earliest.first}
use Rattle.rv_types.proofs.clocks.time_nodes.Given as goal

abbrev pub invariant-loop-node : goal.invariant-loop-node
invariant-loop-node l = record {
  clocks : l.clocks ≡ map flow_clocks (map node_tree (take l.node-index l.nodes));
  fault : l.fault ≡ first (flat_map clocks_in_node (map node_tree (take l.node-index l.nodes)));
}
