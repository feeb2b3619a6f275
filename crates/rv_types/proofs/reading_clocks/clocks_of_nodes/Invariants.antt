use Rattle.std.proofs.Common.{◌≡◌, map, take}
use Rattle.rv_types.specs.declared.reading_clocks.NodeClocks.{NodeClocks}
use Rattle.rv_types.proofs.reading_clocks.clocks_of_nodes.Given as goal

abbrev pub invariant-loop-node : goal.invariant-loop-node
invariant-loop-node l = map (λ (c : NodeClocks). c.node.now) l.all ≡ take l.node-index l.nodes
