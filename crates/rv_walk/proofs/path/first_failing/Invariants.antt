use Rattle.std.proofs.Common.{◌≡◌, ◌<◌, ℕ}
use Rattle.rv_diagram.specs.Nodes.{Valuation}
use Rattle.rv_proofs.specs.Systems.{System}
use Rattle.rv_symbolic.specs.{Represented.IsRelationOf, Words.IsFalseIn}
use Rattle.rv_walk.specs.Trails.{layer_at, AreControlSets}
use Rattle.rv_walk.proofs.path.first_failing.Given as goal

abbrev pub invariant-loop-layer : goal.invariant-loop-layer
invariant-loop-layer l = record {
  same : l.store ≡ l.initial.store;
  before : (s : System) → IsRelationOf s l.initial.store l.relation → AreControlSets s l.first l.layers.sets
      → (t : ℕ) → t < l.layer → (v : Valuation) → ¬ IsFalseIn s (layer_at l.first l.layers.sets t) v;
}
