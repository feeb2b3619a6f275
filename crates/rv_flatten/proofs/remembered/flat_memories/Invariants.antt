use Rattle.std.proofs.Common.{◌≡◌, map, take}
use Rattle.std.specs.List.{Contains}
use Rattle.rv_flat.specs.{declared.parts.FlatMemory.FlatMemory, Systems.memory_of}
use Rattle.rv_flatten.specs.{Building.IsRemembered, Building.main_given, Building.numbers_of, Building.program_given, Kept.kept_memory}
use Rattle.rv_flatten.proofs.remembered.flat_memories.Given as goal

abbrev pub invariant-loop-kept : goal.invariant-loop-kept
invariant-loop-kept l =
    (map memory_of l.memories ≡ map kept_memory (take l.kept-index l.kept-items))
    × ((m : FlatMemory) → Contains l.memories m → IsRemembered (program_given l.given) (main_given l.given) (numbers_of l.given l.found) m)
