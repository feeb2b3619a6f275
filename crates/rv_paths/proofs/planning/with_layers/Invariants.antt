use Rattle.std.proofs.Common.{◌≡◌}
use Rattle.rv_proofs.specs.{Systems.System, Ranges.IsControlSet}
use Rattle.rv_paths.specs.Candidates.{AreControlSets}
use Rattle.rv_paths.proofs.planning.with_layers.Given as goal

abbrev pub invariant-loop-layer : goal.invariant-loop-layer
invariant-loop-layer l = record {
  same : l.store ≡ l.initial.store;
  control : (s : System) → l.initial.store.variables ≡ s.variables → IsControlSet s l.initial.reached → AreControlSets s l.layers.sets
      → IsControlSet s l.reached;
}
