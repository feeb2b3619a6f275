use Rattle.std.proofs.Common.{◌≡◌, ◌++◌, map, drop}
use Rattle.rv_tree.specs.Tree.{tree_of, trees}
use Rattle.rv_types.specs.ToldPaces.{first_pace, told_pace_of_all}
use Rattle.rv_instances.specs.NumberedNeeds.{node_read, numbers_of}
use Rattle.rv_sequence.specs.Needed.{told_needed_by_all}
use Rattle.rv_sequence.proofs.shown.+shown.Given as goal

abbrev pub invariant-add_all-loop-e : goal.invariant-add_all-loop-e
invariant-add_all-loop-e l = record {
  pace : first_pace l.together (told_pace_of_all (node_read l.reader) (trees (map tree_of (drop l.e-index l.expressions)))) ≡ told_pace_of_all
      (node_read l.reader) (trees (map tree_of l.expressions));
  found :
      l.found ++ told_needed_by_all (node_read l.reader) (numbers_of l.reader) (trees (map tree_of (drop l.e-index l.expressions)))
      ≡ l.initial.found ++ told_needed_by_all (node_read l.reader) (numbers_of l.reader) (trees (map tree_of l.expressions));
}
