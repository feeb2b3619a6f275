use Rattle.std.proofs.Common.{◌≡◌, ◌++◌, map, drop}
use Rattle.rv_tree.specs.{Tree.tree_of, Tree.trees, Sites.trees_offsets}
use Rattle.rv_syntax.proofs.sites.+collect.Given as goal

abbrev pub invariant-collect_all-each : goal.invariant-collect_all-each
invariant-collect_all-each l =
    l.offsets.items ++ trees_offsets (trees (map tree_of (drop l.expr-index l.all))) ≡ l.fn.offsets.items ++ trees_offsets (trees (map tree_of l.fn.all))
