use Rattle.std.proofs.Common.{◌≡◌, ◌++◌, map, drop}
use Rattle.rv_tree.specs.Tree.{tree_of, trees}
use Rattle.rv_flatten.specs.Literals.{literals_of_all}
use Rattle.rv_flatten.proofs.thresholds.+literals.Given as goal

abbrev pub invariant-add_all_literals-each : goal.invariant-add_all_literals-each
invariant-add_all_literals-each l =
    l.found ++ literals_of_all (trees (map tree_of (drop l.e-index l.es))) ≡ l.fn.found ++ literals_of_all (trees (map tree_of l.fn.es))
