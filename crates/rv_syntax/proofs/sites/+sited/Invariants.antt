use Rattle.std.proofs.Common.{◌≡◌, drop, map}
use Rattle.rv_tree.specs.{Tree.tree_of, Tree.trees, Sites.numbered_from, Sites.sited_trees}
use Rattle.rv_syntax.proofs.Joined.{joined}
use Rattle.rv_syntax.proofs.sites.+sited.Given as goal

abbrev pub invariant-sited_all-each : goal.invariant-sited_all-each
invariant-sited_all-each l =
    joined (map tree_of l.made) (sited_trees (numbered_from l.sites.first l.sites.offsets.items) (trees (map tree_of (drop l.expr-index l.all))))
    ≡ sited_trees (numbered_from l.fn.sites.first l.fn.sites.offsets.items) (trees (map tree_of l.fn.all))
