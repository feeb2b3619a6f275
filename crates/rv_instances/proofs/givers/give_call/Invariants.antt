use Rattle.std.proofs.Common.{◌≡◌, ℕ, ◌+◌, ◌<◌, length}
use Rattle.rv_instances.specs.Giving.{AreGiven, IsGiven, KeepsGiven, first_of}
use Rattle.rv_instances.specs.{Expanded.program_of, Expanded.main_of, Layouts.callee_or_main}
use Rattle.rv_instances.proofs.givers.give_call.Given as goal

abbrev pub invariant-loop-number : goal.invariant-loop-number
invariant-loop-number l = record {
  given : AreGiven (program_of l.expanded) (main_of l.expanded) l.expanded.instances.now l.found;
  kept : KeepsGiven l.fn.found l.found;
  arguments : (j : ℕ) → j < l.number → IsGiven l.found (first_of (program_of l.expanded) l.expanded.instances.now
      (callee_or_main l.layout.callees l.instance l.call.site) + j);
  end : l.number-end ≡ length l.call.arguments.now;
}
