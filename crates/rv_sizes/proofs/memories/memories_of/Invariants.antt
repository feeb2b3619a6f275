use Rattle.std.proofs.Common.{◌≡◌, ◌++◌, map, drop}
use Rattle.rv_tree.specs.Tree.{node_tree, program_tree}
use Rattle.rv_sizes.specs.Memories.{memory_kinds}
use Rattle.rv_sizes.proofs.memories.memories_of.Given as goal

abbrev pub invariant-loop-node : goal.invariant-loop-node
invariant-loop-node l =
    l.kinds ++ map (memory_kinds (program_tree l.p)) (map node_tree (drop l.node-index l.p.nodes))
    ≡ map (memory_kinds (program_tree l.p)) (map node_tree l.p.nodes)
