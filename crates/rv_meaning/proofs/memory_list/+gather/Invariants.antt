use Rattle.std.proofs.Common.{◌≡◌, ◌++◌, map, drop}
use Rattle.rv_tree.specs.{Tree.tree_of, Tree.trees, Delays.delays_of_all}
use Rattle.rv_meaning.specs.Remembered.{sites_by}
use Rattle.rv_meaning.proofs.memory_list.+gather.Given as goal

abbrev pub invariant-gather_all-loop-e : goal.invariant-gather_all-loop-e
invariant-gather_all-loop-e l =
    l.sites ++ sites_by l.flows (delays_of_all (trees (map tree_of (drop l.e-index l.expressions))))
    ≡ l.initial.sites ++ sites_by l.flows (delays_of_all (trees (map tree_of l.expressions)))
