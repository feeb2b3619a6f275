use Rattle.std.proofs.Common.{◌≡◌, ◌++◌, map, drop}
use Rattle.rv_tree.specs.Tree.{equation_tree}
use Rattle.rv_types.specs.Instances.{calls_in_equations}
use Rattle.rv_calls.specs.Callings.{callings}
use Rattle.rv_calls.proofs.calls.gather_equations.Given as goal

abbrev pub invariant-loop-equation : goal.invariant-loop-equation
invariant-loop-equation l =
    l.found ++ callings l.names (calls_in_equations (map equation_tree (drop l.equation-index l.equations)))
    ≡ l.initial.found ++ callings l.names (calls_in_equations (map equation_tree l.equations))
