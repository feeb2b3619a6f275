use Rattle.std.proofs.Common.{◌≡◌, map, take}
use Rattle.rv_tree.specs.Tree.{program_tree, node_tree}
use Rattle.rv_types.specs.declared.reading_clocks.NodeClocks.{NodeClocks}
use Rattle.rv_flatten.specs.Remembered.{read_seen, reads_in}
use Rattle.rv_flatten.proofs.memories.reads_of_nodes.Given as goal

abbrev pub invariant-loop-clocks : goal.invariant-loop-clocks
invariant-loop-clocks l =
    map (map read_seen) l.read ≡ map (λ (c : NodeClocks). reads_in (program_tree l.expanded.program.now) (node_tree c.node.now))
    (take l.clocks-index l.expanded.clocks)
