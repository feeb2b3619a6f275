use Rattle.std.proofs.Common.{◌≡◌, map, drop}
use Rattle.rv_tree.specs.Tree.{equation_tree}
use Rattle.rv_types.specs.WideConstants.{lesser}
use Rattle.rv_sequence.specs.{Weighing.weighing, WideNodes.wide_in_equations}
use Rattle.rv_sequence.proofs.weight_check.wide_in_rights.Given as goal

abbrev pub invariant-loop-equation : goal.invariant-loop-equation
invariant-loop-equation l = lesser l.first (wide_in_equations (weighing l.w) (map equation_tree (drop l.equation-index l.equations))) ≡ wide_in_equations
    (weighing l.w) (map equation_tree l.equations)
