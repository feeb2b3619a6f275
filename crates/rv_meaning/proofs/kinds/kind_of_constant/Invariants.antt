use Rattle.std.proofs.Common.{◌≡◌, ◌≤◌, map, take, reverse, length}
use Rattle.rv_tree.specs.Tree.{constant_tree, program_tree}
use Rattle.rv_meaning.specs.Telling.{constant_told}
use Rattle.rv_meaning.proofs.kinds.kind_of_constant.Given as goal

abbrev pub invariant-loop-left : goal.invariant-loop-left
invariant-loop-left l = record {
  within : l.left ≤ length l.constants;
  told : constant_told (program_tree l.p) (reverse (map constant_tree (take l.left l.constants))) l.wanted
      ≡ constant_told (program_tree l.p) (reverse (map constant_tree l.constants)) l.initial.wanted;
}

abbrev pub decreases-loop-left : goal.decreases-loop-left
decreases-loop-left l = l.left
