use Rattle.std.proofs.Common.{◌≡◌, ◌++◌, map, drop}
use Rattle.rv_tree.specs.Tree.{tree_of, trees}
use Rattle.rv_types.specs.Instances.{calls_in_all}
use Rattle.rv_calls.specs.Callings.{callings}
use Rattle.rv_calls.proofs.calls.+gather.Given as goal

abbrev pub invariant-gather_all-loop-e : goal.invariant-gather_all-loop-e
invariant-gather_all-loop-e l =
    l.found ++ callings l.names (calls_in_all (trees (map tree_of (drop l.e-index l.expressions))))
    ≡ l.initial.found ++ callings l.names (calls_in_all (trees (map tree_of l.expressions)))
