use Rattle.std.proofs.Common.{◌≡◌, ℕ, ◌<◌, [], length, get_or}
use Rattle.rv_types.specs.Names.{texts}
use Rattle.rv_instances.specs.{Expanded.program_of, Expanded.main_of, Giving.AreGiven, Giving.IsGiven, Giving.KeepsGiven, Giving.number_at}
use Rattle.rv_instances.proofs.givers.give_equation.Given as goal

abbrev pub invariant-loop-number : goal.invariant-loop-number
invariant-loop-number l = record {
  given : AreGiven (program_of l.expanded) (main_of l.expanded) l.expanded.instances.now l.found;
  kept : KeepsGiven l.fn.found l.found;
  lefts : (j : ℕ) → j < l.number → IsGiven l.found (number_at (program_of l.expanded) l.expanded.instances.now l.instance
      (get_or (texts l.equation.lefts) j []));
  end : l.number-end ≡ length l.equation.lefts;
}
