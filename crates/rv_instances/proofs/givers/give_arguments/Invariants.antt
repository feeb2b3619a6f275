use Rattle.std.proofs.Common.{ℕ, ◌+◌, ◌<◌, length, get_or}
use Rattle.rv_instances.specs.Giving.{AreGiven, IsGiven, KeepsGiven, first_of}
use Rattle.rv_instances.specs.{declared.timed.ClockedCall.ClockedCall, Expanded.program_of, Expanded.main_of, Layouts.callee_or_main}
use Rattle.rv_instances.proofs.givers.give_arguments.Given as goal

abbrev pub invariant-loop-call : goal.invariant-loop-call
invariant-loop-call l = record {
  given : AreGiven (program_of l.expanded) (main_of l.expanded) l.expanded.instances.now l.found;
  kept : KeepsGiven l.fn.found l.found;
  arguments : (k j : ℕ) (x : ClockedCall) → k < l.call-index → j < length (get_or l.call-items k x).arguments.now
      → IsGiven l.found (first_of (program_of l.expanded) l.expanded.instances.now (callee_or_main l.layout.callees l.instance (get_or l.call-items k x).site)
      + j);
}
