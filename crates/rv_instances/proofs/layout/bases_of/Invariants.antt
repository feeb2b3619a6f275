use Rattle.std.proofs.Common.{◌≡◌, ℕ, ◌<◌, ◌++◌, ◌∷◌, [], length}
use Rattle.rv_instances.specs.Expanded.{program_of, main_of}
use Rattle.rv_instances.specs.Layouts.{path_at, IsBaseOf}
use Rattle.rv_instances.proofs.layout.bases_of.Given as goal

abbrev pub invariant-loop-instance : goal.invariant-loop-instance
invariant-loop-instance l = record {
  size : length l.bases ≡ length l.expanded.instances.now;
  main : (k : ℕ) → path_at l.expanded.instances.now k ≡ [] → IsBaseOf (program_of l.expanded) (main_of l.expanded) l.expanded.instances.now l.bases k;
  done : (m s k : ℕ) → m < l.instance → k < length l.expanded.instances.now → path_at l.expanded.instances.now k ≡ path_at l.expanded.instances.now m ++ s ∷ []
      → IsBaseOf (program_of l.expanded) (main_of l.expanded) l.expanded.instances.now l.bases k;
  end : l.instance-end ≡ length l.expanded.instances.now;
}
