use Rattle.std.proofs.Common.{◌≡◌, ◌+◌, ◌*◌, ◌≤◌, ℕ, true, drop, length, List, Option}
use Rattle.rv_flat.specs.{Inlined.size, Inlined.size_of, Inlined.table_of, FlatInstants.system_of, Tame.AreOver}
use Rattle.rv_diagram.specs.Nodes.{Valuation}
use Rattle.rv_diagram.specs.Growing.{Extends}
use Rattle.rv_agreement.specs.{Agreement.AllFit, Valuations.Reading, Valuations.IsSymbolic}
use Rattle.rv_control.specs.Named.{named}
use Rattle.rv_symbolic.specs.Linked.{AreRefs}
use Rattle.rv_bits.specs.{Bits.bit, Bits.count_true, Shown.AreAfter, Shown.IsAround, Shown.is_there_at, Reads.tree_in, Reads.trees_in, Reads.true_at}
use Rattle.rv_bits.proofs.read.+read.Given as goal

abbrev pub decreases-read_expr : goal.decreases-read_expr
decreases-read_expr l = 4 * size (tree_in l.around.now l.e.now)

abbrev pub decreases-read_not : goal.decreases-read_not
decreases-read_not l = 4 * size (tree_in l.around.now l.operand.now) + 1

abbrev pub decreases-read_binary : goal.decreases-read_binary
decreases-read_binary l = 4 * (size (tree_in l.around.now l.left.now) + size (tree_in l.around.now l.right.now)) + 1

abbrev pub decreases-read_if : goal.decreases-read_if
decreases-read_if l = 4 * (size (tree_in l.around.now l.condition.now) + (size (tree_in l.around.now l.first.now) + size (tree_in l.around.now l.second.now)))
    + 1

abbrev pub decreases-read_each : goal.decreases-read_each
decreases-read_each l = 4 * size_of (trees_in l.around.now l.expressions.now) + 1

abbrev pub decreases-read_at_most_one : goal.decreases-read_at_most_one
decreases-read_at_most_one l = 4 * size_of (trees_in l.around.now l.operands.now) + 2

abbrev pub decreases-show : goal.decreases-show
decreases-show l = 4 * size (table_of l.around.now.flat.now.memories l.number).body + 2

abbrev pub decreases-show_new : goal.decreases-show_new
decreases-show_new l = 4 * size (tree_in l.around.now l.memory.now.body) + 1

abbrev pub invariant-read_each-loop-e : goal.invariant-read_each-loop-e
invariant-read_each-loop-e l = record {
  around : IsAround l.store l.around;
  rest : AreOver (length l.around.read.now.on) (trees_in l.around (drop l.e-index l.expressions));
  smaller : size_of (trees_in l.around (drop l.e-index l.expressions)) ≤ size_of (trees_in l.around l.expressions);
  shown : AreAfter l.around.flat.now l.store.nodes l.shown;
  extends : Extends l.initial.store l.store;
  found : AreRefs l.store.nodes l.refs;
  fit : (k : Option ℕ) → AllFit (system_of l.around.flat.now) (length (system_of l.around.flat.now).flows) k (trees_in l.around l.expressions)
      → AllFit (system_of l.around.flat.now) (length (system_of l.around.flat.now).flows) k (trees_in l.around (drop l.e-index l.expressions));
  counted : (v : Valuation) (row : List (Option Reading)) (k : Option ℕ) → IsSymbolic (system_of l.around.flat.now) (named l.around.flat.now v) row
      → AllFit (system_of l.around.flat.now) (length (system_of l.around.flat.now).flows) k (trees_in l.around l.expressions)
      → is_there_at l.around.flat.now v row k ≡ true
      → count_true (length l.refs) (bit l.store.nodes l.refs v) + true_at l.around.flat.now v row (trees_in l.around (drop l.e-index l.expressions))
      ≡ true_at l.around.flat.now v row (trees_in l.around l.expressions);
}
