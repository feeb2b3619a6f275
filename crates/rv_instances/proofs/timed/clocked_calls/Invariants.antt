use Rattle.std.proofs.Common.{map, take}
use Rattle.rv_tree.specs.Tree.{node_tree}
use Rattle.rv_types.specs.declared.reading_clocks.NodeClocks.{NodeClocks}
use Rattle.rv_instances.specs.Expanded.{AreTold}
use Rattle.rv_instances.proofs.timed.clocked_calls.Given as goal

abbrev pub invariant-loop-of_node : goal.invariant-loop-of_node
invariant-loop-of_node l = AreTold (map (λ (c : NodeClocks). node_tree c.node.now) (take l.of_node-index l.clocks)) l.table
