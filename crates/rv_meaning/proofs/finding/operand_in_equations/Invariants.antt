use Rattle.std.proofs.Common.{◌≡◌, map, drop}
use Rattle.rv_tree.specs.Tree.{equation_tree}
use Rattle.rv_meaning.specs.Leading.{operand_in_equations}
use Rattle.rv_meaning.proofs.finding.operand_in_equations.Given as goal

abbrev pub invariant-loop-equation : goal.invariant-loop-equation
invariant-loop-equation l = operand_in_equations (map equation_tree (drop l.equation-index l.equations)) l.site ≡ operand_in_equations
    (map equation_tree l.equations) l.site
