use Rattle.std.proofs.Common.{◌≡◌, ◌++◌, drop}
use Rattle.rv_types.specs.TypeTables.{places_from}
use Rattle.rv_types.proofs.kinds.label_places.Given as goal

abbrev pub invariant-loop-d : goal.invariant-loop-d
invariant-loop-d l = record {
  counted : l.declaration ≡ l.d-index;
  places : l.places ++ places_from l.declaration (drop l.d-index l.types) ≡ places_from 0 l.types;
}
