use Rattle.std.proofs.Common.{◌≡◌, List, map, drop}
use Rattle.rv_tree.specs.{declared.tree.Expr.Expr, Delays.delays_of_all, Tree.tree_of, Tree.trees, Tree.node_tree}
use Rattle.rv_types.specs.{Clocks.meet, Clocks.pace_of_all, Instances.calls_in_all}
use Rattle.rv_instances.specs.{Expanded.told, Expanded.call_told, Timed.delay_listed, Timed.delay_told, Timed.operator_listed, Timed.operators_of_all}
use Rattle.rv_instances.proofs.TimedParts.{AreToldAfter}
use Rattle.rv_instances.proofs.timed.+gather.Given as goal

abbrev pub invariant-gather_all-loop-e : goal.invariant-gather_all-loop-e
invariant-gather_all-loop-e l = record {
  pace : meet l.together (pace_of_all (node_tree l.clocks.node.now) (trees (map tree_of (drop l.e-index l.expressions)))) ≡ pace_of_all
      (node_tree l.clocks.node.now) (trees (map tree_of l.expressions));
  calls : AreToldAfter told l.found.calls l.initial.found.calls
      (λ (es : List Expr). map (call_told (node_tree l.clocks.node.now)) (calls_in_all (trees (map tree_of es)))) l.expressions l.e-index;
  delays : AreToldAfter delay_listed l.found.delays l.initial.found.delays
      (λ (es : List Expr). map (delay_told (node_tree l.clocks.node.now)) (delays_of_all (trees (map tree_of es)))) l.expressions l.e-index;
  operators : AreToldAfter operator_listed l.found.operators l.initial.found.operators
      (λ (es : List Expr). operators_of_all (node_tree l.clocks.node.now) (trees (map tree_of es))) l.expressions l.e-index;
}
