use Rattle.std.proofs.Common.{◌≡◌, ◌++◌, map, flat_map, drop}
use Rattle.rv_tree.specs.Tree.{node_tree}
use Rattle.rv_flatten.specs.Literals.{node_literals}
use Rattle.rv_flatten.proofs.thresholds.add_nodes.Given as goal

abbrev pub invariant-each : goal.invariant-each
invariant-each l = l.found ++ flat_map node_literals (map node_tree (drop l.node-index l.nodes)) ≡ l.fn.found ++ flat_map node_literals
    (map node_tree l.fn.nodes)
