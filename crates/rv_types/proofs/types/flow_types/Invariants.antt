use Rattle.std.proofs.Common.{◌≡◌, map, flat_map, take}
use Rattle.rv_tree.specs.Tree.{node_tree, program_tree}
use Rattle.rv_types.specs.{Earliest.first, Kinds.flow_kinds, Scopes.types_in_node}
use Rattle.rv_types.proofs.types.flow_types.Given as goal

abbrev pub invariant-loop-node : goal.invariant-loop-node
invariant-loop-node l = record {
  kinds : l.kinds ≡ map (flow_kinds (program_tree l.p)) (map node_tree (take l.node-index l.all));
  fault : l.fault ≡ first (flat_map (types_in_node (program_tree l.p)) (map node_tree (take l.node-index l.all)));
}
