use Rattle.std.proofs.Common.{◌≡◌, ◌+◌, ◌≤◌, map, drop}
use Rattle.rv_tree.specs.Tree.{EquationTree, equation_tree}
use Rattle.rv_instances.specs.Counts.{size}
use Rattle.rv_types.specs.Variables.{total}
use Rattle.rv_base.specs.Limits.{heaviest}
use Rattle.rv_sizes.specs.Capped.{capped}
use Rattle.rv_sizes.proofs.sizes.size_of_equations.Given as goal

abbrev pub invariant-loop-equation : goal.invariant-loop-equation
invariant-loop-equation l = record {
  bound : l.sum ≤ heaviest;
  sum : capped (l.sum + total (λ (q : EquationTree). size q.right) (map equation_tree (drop l.equation-index l.equations))) ≡ capped
      (total (λ (q : EquationTree). size q.right) (map equation_tree l.equations));
}
