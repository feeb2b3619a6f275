use Rattle.std.proofs.Common.{◌≡◌, map, drop}
use Rattle.rv_tree.specs.Tree.{tree_of, trees}
use Rattle.rv_meaning.specs.Leading.{callee_within_all}
use Rattle.rv_meaning.proofs.finding.+callee.Given as goal

abbrev pub invariant-callee_in_all-loop-e : goal.invariant-callee_in_all-loop-e
invariant-callee_in_all-loop-e l = callee_within_all (trees (map tree_of (drop l.e-index l.expressions))) l.site ≡ callee_within_all
    (trees (map tree_of l.expressions)) l.site
