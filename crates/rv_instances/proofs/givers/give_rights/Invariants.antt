use Rattle.std.proofs.Common.{ℕ, ◌<◌, [], length, get_or}
use Rattle.rv_tree.specs.{declared.tree.Equation.Equation, Tree.equation_tree}
use Rattle.rv_types.specs.Names.{texts}
use Rattle.rv_instances.specs.{Expanded.program_of, Expanded.main_of, Giving.AreGiven, Giving.IsGiven, Giving.KeepsGiven, Giving.IsGiving, Giving.number_at}
use Rattle.rv_instances.proofs.givers.give_rights.Given as goal

abbrev pub invariant-loop-equation : goal.invariant-loop-equation
invariant-loop-equation l = record {
  given : AreGiven (program_of l.expanded) (main_of l.expanded) l.expanded.instances.now l.found;
  kept : KeepsGiven l.fn.found l.found;
  lefts : (k j : ℕ) (q : Equation) → k < l.equation-index → j < length (get_or l.equation-items k q).lefts
      → IsGiving (equation_tree (get_or l.equation-items k q))
      → IsGiven l.found (number_at (program_of l.expanded) l.expanded.instances.now l.instance (get_or (texts (get_or l.equation-items k q).lefts) j []));
}
