use Rattle.std.proofs.Common.{◌≡◌, ◌&&◌, not, map, drop}
use Rattle.rv_tree.specs.Tree.{tree_of, trees}
use Rattle.rv_types.specs.{Constants.flags_of_all, Constants.at_most_one, ValueTables.known_in, ValueTables.at_most_after}
use Rattle.rv_types.proofs.values.+evaluate.Given as goal

abbrev pub invariant-is_at_most_one-loop-e : goal.invariant-is_at_most_one-loop-e
invariant-is_at_most_one-loop-e l =
    let known = known_in l.known.constants.now l.known.values.now l.known.labels.now l.known.places.now in
    (not l.seen.several && at_most_after l.seen.some (flags_of_all known (trees (map tree_of (drop l.e-index l.es))))) ≡ at_most_one
    (flags_of_all known (trees (map tree_of l.es)))
