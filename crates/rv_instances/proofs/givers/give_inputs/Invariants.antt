use Rattle.std.proofs.Common.{◌≡◌, ℕ, ◌<◌, length}
use Rattle.rv_instances.specs.{Expanded.program_of, Expanded.main_of, Giving.AreGiven, Giving.IsGiven, Layouts.node_at}
use Rattle.rv_instances.proofs.givers.give_inputs.Given as goal

abbrev pub invariant-loop-input : goal.invariant-loop-input
invariant-loop-input l = record {
  given : AreGiven (program_of l.expanded) (main_of l.expanded) l.expanded.instances.now l.found;
  inputs : (j : ℕ) → j < l.input → IsGiven l.found j;
  end : l.input-end ≡ length (node_at (program_of l.expanded) l.expanded.instances.now 0).inputs;
}
