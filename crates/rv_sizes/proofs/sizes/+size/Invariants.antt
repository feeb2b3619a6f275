use Rattle.std.proofs.Common.{◌≡◌, ◌+◌, ◌≤◌, map, drop}
use Rattle.rv_tree.specs.Tree.{tree_of, trees}
use Rattle.rv_instances.specs.Counts.{size_of_all}
use Rattle.rv_base.specs.Limits.{heaviest}
use Rattle.rv_sizes.specs.Capped.{capped}
use Rattle.rv_sizes.proofs.sizes.+size.Given as goal

abbrev pub invariant-size_of_list-loop-e : goal.invariant-size_of_list-loop-e
invariant-size_of_list-loop-e l = record {
  bound : l.sum ≤ heaviest;
  sum : capped (l.sum + size_of_all (trees (map tree_of (drop l.e-index l.expressions)))) ≡ capped (size_of_all (trees (map tree_of l.expressions)));
}
