use Rattle.std.proofs.Common.{◌≡◌, ◌++◌, map, drop}
use Rattle.rv_tree.specs.Tree.{tree_of, trees}
use Rattle.rv_instances.specs.NumberedNeeds.{node_read, numbers_of}
use Rattle.rv_sequence.specs.Needed.{told_needed_by_all}
use Rattle.rv_sequence.proofs.needs.+needs.Given as goal

abbrev pub invariant-add_all-loop-e : goal.invariant-add_all-loop-e
invariant-add_all-loop-e l =
    l.found ++ told_needed_by_all (node_read l.reader) (numbers_of l.reader) (trees (map tree_of (drop l.e-index l.expressions)))
    ≡ l.fn.found ++ told_needed_by_all (node_read l.reader) (numbers_of l.reader) (trees (map tree_of l.expressions))
