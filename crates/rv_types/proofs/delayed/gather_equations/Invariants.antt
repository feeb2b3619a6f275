use Rattle.std.proofs.Common.{◌≡◌, ◌++◌, map, flat_map, drop}
use Rattle.rv_tree.specs.Tree.{EquationTree, equation_tree}
use Rattle.rv_types.specs.{Delayed.delayed_in, Tables.scope_of}
use Rattle.rv_types.proofs.delayed.gather_equations.Given as goal

abbrev pub invariant-loop-equation : goal.invariant-loop-equation
invariant-loop-equation l =
    l.found ++ flat_map (λ (q : EquationTree). delayed_in (scope_of l.view) q.right) (map equation_tree (drop l.equation-index l.equations))
    ≡ l.initial.found ++ flat_map (λ (q : EquationTree). delayed_in (scope_of l.view) q.right) (map equation_tree l.equations)
