use Rattle.std.proofs.Common.{◌≡◌, ◌++◌, map, drop}
use Rattle.rv_tree.specs.Tree.{equation_tree}
use Rattle.rv_flatten.specs.Literals.{equation_literals}
use Rattle.rv_flatten.proofs.thresholds.add_equations.Given as goal

abbrev pub invariant-each : goal.invariant-each
invariant-each l = l.found ++ equation_literals (map equation_tree (drop l.equation-index l.equations)) ≡ l.fn.found
    ++ equation_literals (map equation_tree l.fn.equations)
