use Rattle.std.proofs.Common.{◌≡◌, ℕ, ◌<◌, ◌++◌, ◌∷◌, [], length, get_or}
use Rattle.rv_instances.specs.Expanded.{program_of, main_of}
use Rattle.rv_instances.specs.{declared.timed.ClockedCall.ClockedCall, Layouts.path_at, Layouts.IsBaseOf}
use Rattle.rv_instances.proofs.layout.set_bases.Given as goal

abbrev pub invariant-loop-call : goal.invariant-loop-call
invariant-loop-call l = record {
  size : length l.bases ≡ length l.expanded.instances.now;
  kept : (k : ℕ) → IsBaseOf (program_of l.expanded) (main_of l.expanded) l.expanded.instances.now l.fn.bases k
      → IsBaseOf (program_of l.expanded) (main_of l.expanded) l.expanded.instances.now l.bases k;
  done : (j k : ℕ) (x : ClockedCall) → j < l.call-index → k < length l.expanded.instances.now
      → path_at l.expanded.instances.now k ≡ path_at l.expanded.instances.now l.instance ++ (get_or l.call-items j x).site ∷ []
      → IsBaseOf (program_of l.expanded) (main_of l.expanded) l.expanded.instances.now l.bases k;
}
