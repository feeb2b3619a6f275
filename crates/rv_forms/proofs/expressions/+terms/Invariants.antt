use Rattle.std.proofs.Common.{◌+◌, ◌*◌}
use Rattle.rv_flat.specs.Inlined.{size, table_of}
use Rattle.rv_bits.specs.Reads.{tree_in}
use Rattle.rv_forms.proofs.expressions.+terms.Given as goal

abbrev pub decreases-term_of : goal.decreases-term_of
decreases-term_of l = 4 * size (tree_in l.around.now l.e.now)

abbrev pub decreases-binary_term : goal.decreases-binary_term
decreases-binary_term l = 4 * (size (tree_in l.around.now l.left.now) + size (tree_in l.around.now l.right.now)) + 1

abbrev pub decreases-scaled_term : goal.decreases-scaled_term
decreases-scaled_term l = 4 * size (tree_in l.around.now l.operand.now) + 1

abbrev pub decreases-chosen_term : goal.decreases-chosen_term
decreases-chosen_term l =
    4 * (size (tree_in l.around.now l.condition.now) + (size (tree_in l.around.now l.first.now) + size (tree_in l.around.now l.second.now))) + 1

abbrev pub decreases-after_term : goal.decreases-after_term
decreases-after_term l = 4 * size (table_of l.around.now.flat.now.memories l.number).body + 2

abbrev pub decreases-after_new : goal.decreases-after_new
decreases-after_new l = 4 * size (tree_in l.around.now l.memory.now.body) + 1
