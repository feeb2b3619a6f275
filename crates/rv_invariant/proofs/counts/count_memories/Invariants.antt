use Rattle.std.proofs.Common.{◌≡◌, take, count_by}
use Rattle.rv_types.specs.Variables.{is_integer}
use Rattle.rv_invariant.proofs.counts.count_memories.Given as goal

abbrev pub invariant-loop-memory : goal.invariant-loop-memory
invariant-loop-memory l = l.count ≡ count_by (λ m. is_integer m.kind) (take l.memory-index l.memories)
