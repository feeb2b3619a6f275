use Rattle.std.proofs.Common.{◌≡◌, map, drop}
use Rattle.rv_tree.specs.Tree.{tree_of, trees}
use Rattle.rv_types.specs.{Earliest.first, Earliest.sooner, Known.unknown_in_all}
use Rattle.rv_types.proofs.uses.+unknown.Given as goal

abbrev pub invariant-unknown_use_of_all-loop-e : goal.invariant-unknown_use_of_all-loop-e
invariant-unknown_use_of_all-loop-e l =
    sooner l.fault (first (unknown_in_all l.spaces l.flows l.reach (trees (map tree_of (drop l.e-index l.es))))) ≡ first
    (unknown_in_all l.spaces l.flows l.reach (trees (map tree_of l.es)))
