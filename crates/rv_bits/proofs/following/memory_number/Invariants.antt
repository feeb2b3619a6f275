use Rattle.std.proofs.Common.{◌≡◌, ◌+◌, drop}
use Rattle.rv_tree.specs.Places.{index_of}
use Rattle.rv_flat.specs.Systems.{memory_places_of}
use Rattle.rv_bits.proofs.following.memory_number.Given as goal

abbrev pub invariant-loop-number : goal.invariant-loop-number
invariant-loop-number l = record {
  counted : l.number + index_of (drop l.number (memory_places_of l.memories)) l.place.sites ≡ index_of (memory_places_of l.memories) l.place.sites;
}
