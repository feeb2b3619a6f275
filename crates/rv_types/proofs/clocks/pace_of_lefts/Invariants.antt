use Rattle.std.proofs.Common.{◌≡◌, drop}
use Rattle.rv_tree.specs.Tree.{node_tree}
use Rattle.rv_types.specs.Clocks.{meet, left_pace}
use Rattle.rv_types.proofs.clocks.pace_of_lefts.Given as goal

abbrev pub invariant-loop-left : goal.invariant-loop-left
invariant-loop-left l = meet l.pace (left_pace (node_tree l.timing.node.now) (drop l.left-index l.lefts)) ≡ left_pace (node_tree l.timing.node.now) l.lefts
