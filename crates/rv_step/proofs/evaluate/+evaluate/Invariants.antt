use Rattle.std.proofs.Common.{◌≡◌, ◌+◌, ◌*◌, ◌≤◌, drop}
use Rattle.rv_flat.specs.Inlined.{size, size_of, table_of}
use Rattle.rv_step.specs.Surroundings.{AreReady, AreShownIn, tree_in, trees_in, trues_in}
use Rattle.rv_step.proofs.evaluate.+evaluate.Given as goal

abbrev pub decreases-evaluate : goal.decreases-evaluate
decreases-evaluate l = 2 * size (tree_in l.around.now l.e.now)

abbrev pub decreases-show : goal.decreases-show
decreases-show l = 2 * size (table_of l.around.now.memories.now l.number).body + 1

abbrev pub decreases-count_true : goal.decreases-count_true
decreases-count_true l = 2 * size_of (trees_in l.around.now l.expressions.now) + 1

abbrev pub invariant-count_true-loop-e : goal.invariant-count_true-loop-e
invariant-count_true-loop-e l = record {
  bound : l.count ≤ l.e-index;
  rest : AreReady l.around (trees_in l.around (drop l.e-index l.expressions));
  counted : l.count + trues_in l.around (trees_in l.around (drop l.e-index l.expressions)) ≡ trues_in l.around (trees_in l.around l.expressions);
  shown : AreShownIn l.around l.shown;
  smaller : size_of (trees_in l.around (drop l.e-index l.expressions)) ≤ size_of (trees_in l.around l.expressions);
}
