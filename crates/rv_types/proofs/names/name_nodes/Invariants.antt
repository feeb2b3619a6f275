use Rattle.std.proofs.Common.{◌≡◌, take, map, flat_map}
use Rattle.rv_tree.specs.Tree.{node_tree}
use Rattle.rv_types.specs.{Known.names_in, Earliest.first}
use Rattle.rv_types.proofs.names.name_nodes.Given as goal

abbrev pub invariant-loop-node : goal.invariant-loop-node
invariant-loop-node l = l.fault ≡ first (flat_map (names_in l.spaces) (map node_tree (take l.node-index l.nodes)))
