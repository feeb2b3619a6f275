use Rattle.std.proofs.Common.{◌≡◌, ◌+◌, ◌*◌, max, map, drop}
use Rattle.rv_tree.specs.{declared.tree.Expr.size-Expr, Tree.tree_of, Tree.trees}
use Rattle.rv_types.specs.{ConstantParts.no_trues, ConstantParts.trues_over, WideConstants.lesser}
use Rattle.rv_sequence.specs.Weighing.{weighing, first_in_all}
use Rattle.rv_sequence.proofs.weights.+weigh.Given as goal

abbrev pub invariant-weigh_all-loop-e : goal.invariant-weigh_all-loop-e
invariant-weigh_all-loop-e l =
    let w = weighing l.w in
    record {
      trues : trues_over w.scope w.known l.trues (trees (map tree_of (drop l.e-index l.es))) ≡ trues_over w.scope w.known no_trues (trees (map tree_of l.es));
      first : lesser l.first (first_in_all w l.whole (trees (map tree_of (drop l.e-index l.es)))) ≡ first_in_all w l.whole (trees (map tree_of l.es));
    }

abbrev pub decreases-weigh : goal.decreases-weigh
decreases-weigh l = 3 * size-Expr l.e.now

abbrev pub decreases-with_right : goal.decreases-with_right
decreases-with_right l = 3 * size-Expr l.right.now + 1

abbrev pub decreases-weigh_not : goal.decreases-weigh_not
decreases-weigh_not l = 3 * size-Expr l.operand.now + 1

abbrev pub decreases-weigh_minus : goal.decreases-weigh_minus
decreases-weigh_minus l = 3 * size-Expr l.operand.now + 1

abbrev pub decreases-weigh_pre : goal.decreases-weigh_pre
decreases-weigh_pre l = 3 * size-Expr l.operand.now + 1

abbrev pub decreases-weigh_current : goal.decreases-weigh_current
decreases-weigh_current l = 3 * size-Expr l.operand.now + 1

abbrev pub decreases-weigh_when : goal.decreases-weigh_when
decreases-weigh_when l = 3 * size-Expr l.operand.now + 1

abbrev pub decreases-weigh_if : goal.decreases-weigh_if
decreases-weigh_if l = 3 * max (size-Expr l.condition.now) (max (size-Expr l.yes.now) (size-Expr l.no.now)) + 1

abbrev pub decreases-weigh_all : goal.decreases-weigh_all
decreases-weigh_all l = 3 * goal.size-weigh_all l + 1

abbrev pub decreases-weigh_at_most_one : goal.decreases-weigh_at_most_one
decreases-weigh_at_most_one l = 3 * goal.size-weigh_at_most_one l + 2

abbrev pub decreases-weigh_call : goal.decreases-weigh_call
decreases-weigh_call l = 3 * goal.size-weigh_call l + 2
