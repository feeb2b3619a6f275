use Rattle.std.proofs.Common.{◌≡◌}
use Rattle.rv_proofs.specs.Systems.{System}
use Rattle.rv_symbolic.specs.Represented.{IsRelationOf}
use Rattle.rv_left.specs.Entries.{AreThawnSets, AreLocations}
use Rattle.rv_left.proofs.locating.locations.Given as goal

abbrev pub invariant-loop-k : goal.invariant-loop-k
invariant-loop-k l = record {
  same : l.store ≡ l.initial.store;
  located : (s : System) → IsRelationOf s l.initial.store l.relation → AreThawnSets s l.initial.store l.sets l.refs
      → AreLocations s l.sets l.k l.locations;
}
