use Rattle.std.proofs.Common.{◌≡◌, ◌++◌, map, drop}
use Rattle.rv_tree.specs.Tree.{node_tree}
use Rattle.rv_sizes.specs.Capped.{capped_sizes}
use Rattle.rv_sizes.proofs.sizes.sizes_of.Given as goal

abbrev pub invariant-loop-node : goal.invariant-loop-node
invariant-loop-node l = l.sizes ++ capped_sizes (map node_tree (drop l.node-index l.p.nodes)) ≡ capped_sizes (map node_tree l.p.nodes)
