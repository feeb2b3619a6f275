use Rattle.std.proofs.Common.{◌≡◌, ◌+◌, ◌*◌, max, map, take, drop}
use Rattle.rv_tree.specs.{declared.tree.Expr.size-Expr, Tree.tree_of, Tree.trees}
use Rattle.rv_flat.specs.RawTree.{raw_tree}
use Rattle.rv_flatten.specs.Tables.{tree_read, trues_read}
use Rattle.rv_flatten.proofs.expressions.+flat_part.Given as goal

abbrev pub invariant-flat_all-loop-operand : goal.invariant-flat_all-loop-operand
invariant-flat_all-loop-operand l = record {
  flat : map raw_tree l.all ≡ map (λ e. tree_read l.frame (tree_of e)) (take l.operand-index l.operands);
  trues : trues_read l.frame l.trues (trees (map tree_of (drop l.operand-index l.operands))) ≡ trues_read l.frame l.fn.trues (trees (map tree_of l.operands));
}

abbrev pub decreases-flat_part : goal.decreases-flat_part
decreases-flat_part l = 4 * size-Expr l.e.now + 1

abbrev pub decreases-flat_other : goal.decreases-flat_other
decreases-flat_other l = 4 * size-Expr l.e.now

abbrev pub decreases-flat_right : goal.decreases-flat_right
decreases-flat_right l = 4 * size-Expr l.right.now + 2

abbrev pub decreases-flat_not : goal.decreases-flat_not
decreases-flat_not l = 4 * size-Expr l.operand.now + 2

abbrev pub decreases-flat_minus : goal.decreases-flat_minus
decreases-flat_minus l = 4 * size-Expr l.operand.now + 2

abbrev pub decreases-flat_if : goal.decreases-flat_if
decreases-flat_if l = 4 * max (size-Expr l.condition.now) (max (size-Expr l.first.now) (size-Expr l.second.now)) + 2

abbrev pub decreases-flat_all : goal.decreases-flat_all
decreases-flat_all l = 4 * goal.size-flat_all l + 2

abbrev pub decreases-flat_at_most_one : goal.decreases-flat_at_most_one
decreases-flat_at_most_one l = 4 * goal.size-flat_at_most_one l + 3
