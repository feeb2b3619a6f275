use Rattle.std.proofs.Common.{List, map, flat_map}
use Rattle.rv_tree.specs.{Delays.delays_in_equations, declared.tree.Equation.Equation, Tree.EquationTree, Tree.equation_tree, Tree.node_tree}
use Rattle.rv_types.specs.Instances.{calls_in_equations}
use Rattle.rv_instances.specs.{Expanded.told, Expanded.call_told, Timed.delay_listed, Timed.delay_told, Timed.operator_listed, Timed.operators_in}
use Rattle.rv_instances.proofs.TimedParts.{AreToldAfter}
use Rattle.rv_instances.proofs.timed.gather_equations.Given as goal

abbrev pub invariant-loop-equation : goal.invariant-loop-equation
invariant-loop-equation l = record {
  calls : AreToldAfter told l.found.calls l.initial.found.calls
      (λ (xs : List Equation). map (call_told (node_tree l.clocks.node.now)) (calls_in_equations (map equation_tree xs))) l.equations l.equation-index;
  delays : AreToldAfter delay_listed l.found.delays l.initial.found.delays
      (λ (xs : List Equation). map (delay_told (node_tree l.clocks.node.now)) (delays_in_equations (map equation_tree xs))) l.equations l.equation-index;
  operators : AreToldAfter operator_listed l.found.operators l.initial.found.operators
      (λ (xs : List Equation). flat_map (λ (q : EquationTree). operators_in (node_tree l.clocks.node.now) q.right) (map equation_tree xs))
      l.equations l.equation-index;
}
