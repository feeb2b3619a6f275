use Rattle.std.proofs.Common.{◌≡◌, ◌++◌, drop}
use Rattle.rv_types.specs.TypeTables.{places_among}
use Rattle.rv_types.proofs.kinds.push_labels.Given as goal

abbrev pub invariant-loop : goal.invariant-loop
invariant-loop l = record {
  counted : l.number ≡ l.index;
  places : l.places ++ places_among l.declaration l.number (drop l.index l.labels) ≡ l.initial.places ++ places_among l.declaration 0 l.labels;
}
