use Rattle.std.proofs.Common.{◌≡◌, map, drop}
use Rattle.rv_tree.specs.Tree.{tree_of, trees, node_tree}
use Rattle.rv_types.specs.ToldPaces.{told_pace_of_all}
use Rattle.rv_types.proofs.told_paces.+told.Given as goal

abbrev pub invariant-told_by_all-loop-e : goal.invariant-told_by_all-loop-e
invariant-told_by_all-loop-e l =
    told_pace_of_all (node_tree l.timing.node.now) (trees (map tree_of (drop l.e-index l.es))) ≡ told_pace_of_all (node_tree l.timing.node.now)
    (trees (map tree_of l.es))
