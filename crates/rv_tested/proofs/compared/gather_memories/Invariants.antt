use Rattle.std.proofs.Common.{◌≡◌, ◌++◌, map, flat_map, drop}
use Rattle.rv_agreement.specs.Valuations.{item_comparisons}
use Rattle.rv_flat.specs.{FlatInstants.system_of, Systems.memory_item}
use Rattle.rv_tested.specs.Compared.{comparison_in}
use Rattle.rv_tested.proofs.compared.gather_memories.Given as goal

abbrev pub invariant-loop-memory : goal.invariant-loop-memory
invariant-loop-memory l =
    map (comparison_in l.flat.memories) l.found
    ++ flat_map (item_comparisons (system_of l.flat).flows) (map (memory_item l.flat.memories) (drop l.memory-index l.flat.memories))
    ≡ map (comparison_in l.flat.memories) l.fn.found
    ++ flat_map (item_comparisons (system_of l.flat).flows) (map (memory_item l.flat.memories) l.flat.memories)
