use Rattle.std.proofs.Common.{◌≡◌, ◌++◌, map, drop}
use Rattle.rv_types.specs.Lists.{with_copies}
use Rattle.rv_flatten.specs.{Kept.kept_memory, VariableLists.kept_variables}
use Rattle.rv_flat.specs.Lists.{variable_of}
use Rattle.rv_flatten.proofs.variables.add_memories.Given as goal

abbrev pub invariant-loop-memory : goal.invariant-loop-memory
invariant-loop-memory l =
    map variable_of l.bits ++ with_copies (kept_variables l.types (map kept_memory (drop l.memory-index l.kept)))
    ≡ map variable_of l.initial.bits ++ with_copies (kept_variables l.types (map kept_memory l.kept))
