use Rattle.std.proofs.Common.{◌≡◌, ◌+◌, ◌*◌, ◌&&◌, not, max, map, drop}
use Rattle.rv_tree.specs.{declared.tree.Expr.size-Expr, Tree.tree_of, Tree.trees}
use Rattle.rv_types.specs.{Constants.flags_of_all, Constants.at_most_one, ValueTables.at_most_after, ValueTables.value_by, WideConstants.lesser}
use Rattle.rv_types.specs.{WideConstants.first_wide_of_all}
use Rattle.rv_types.proofs.wide_constants.+count.Given as goal

abbrev pub invariant-count_all-loop-e : goal.invariant-count_all-loop-e
invariant-count_all-loop-e l =
    let known = value_by l.known in
    record {
      seen : (not l.seen.several && at_most_after l.seen.some (flags_of_all known (trees (map tree_of (drop l.e-index l.es))))) ≡ at_most_one
          (flags_of_all known (trees (map tree_of l.es)));
      first : lesser l.first (first_wide_of_all known (trees (map tree_of (drop l.e-index l.es)))) ≡ first_wide_of_all known (trees (map tree_of l.es));
    }

abbrev pub decreases-count : goal.decreases-count
decreases-count l = 3 * size-Expr l.e.now

abbrev pub decreases-with_right : goal.decreases-with_right
decreases-with_right l = 3 * size-Expr l.right.now + 1

abbrev pub decreases-count_not : goal.decreases-count_not
decreases-count_not l = 3 * size-Expr l.operand.now + 1

abbrev pub decreases-count_minus : goal.decreases-count_minus
decreases-count_minus l = 3 * size-Expr l.operand.now + 1

abbrev pub decreases-count_below : goal.decreases-count_below
decreases-count_below l = 3 * size-Expr l.operand.now + 1

abbrev pub decreases-count_if : goal.decreases-count_if
decreases-count_if l = 3 * max (size-Expr l.condition.now) (max (size-Expr l.yes.now) (size-Expr l.no.now)) + 1

abbrev pub decreases-count_all : goal.decreases-count_all
decreases-count_all l = 3 * goal.size-count_all l + 1

abbrev pub decreases-count_at_most_one : goal.decreases-count_at_most_one
decreases-count_at_most_one l = 3 * goal.size-count_at_most_one l + 2

abbrev pub decreases-count_call : goal.decreases-count_call
decreases-count_call l = 3 * goal.size-count_call l + 2
