use Rattle.std.proofs.Common.{◌≡◌, ◌+◌, map, drop}
use Rattle.rv_tree.specs.{Tree.node_tree, Places.index_of}
use Rattle.rv_meaning.specs.Leading.{node_texts}
use Rattle.rv_meaning.proofs.finding.number_of.Given as goal

abbrev pub invariant-loop-number : goal.invariant-loop-number
invariant-loop-number l = index_of (node_texts (map node_tree (drop l.number l.nodes))) l.name + l.number ≡ index_of (node_texts (map node_tree l.nodes)) l.name
