use Rattle.std.proofs.Common.{List, map, flat_map}
use Rattle.rv_tree.specs.{Delays.delays_in_assertions, declared.tree.Assertion.Assertion, Tree.AssertionTree, Tree.assertion_tree, Tree.node_tree}
use Rattle.rv_types.specs.Instances.{calls_in_assertions}
use Rattle.rv_instances.specs.{Expanded.told, Expanded.call_told, Timed.delay_listed, Timed.delay_told, Timed.operator_listed, Timed.operators_in}
use Rattle.rv_instances.proofs.TimedParts.{AreToldAfter}
use Rattle.rv_instances.proofs.timed.gather_assertions.Given as goal

abbrev pub invariant-loop-assertion : goal.invariant-loop-assertion
invariant-loop-assertion l = record {
  calls : AreToldAfter told l.found.calls l.initial.found.calls
      (λ (xs : List Assertion). map (call_told (node_tree l.clocks.node.now)) (calls_in_assertions (map assertion_tree xs))) l.assertions l.assertion-index;
  delays : AreToldAfter delay_listed l.found.delays l.initial.found.delays
      (λ (xs : List Assertion). map (delay_told (node_tree l.clocks.node.now)) (delays_in_assertions (map assertion_tree xs))) l.assertions l.assertion-index;
  operators : AreToldAfter operator_listed l.found.operators l.initial.found.operators
      (λ (xs : List Assertion). flat_map (λ (a : AssertionTree). operators_in (node_tree l.clocks.node.now) a.body) (map assertion_tree xs))
      l.assertions l.assertion-index;
}
