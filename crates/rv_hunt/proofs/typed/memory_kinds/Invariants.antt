use Rattle.std.proofs.Common.{◌≡◌, map, take}
use Rattle.rv_hunt.proofs.typed.memory_kinds.Given as goal

abbrev pub invariant-loop-memory : goal.invariant-loop-memory
invariant-loop-memory l = l.kinds ≡ map (λ x. x.kind) (take l.memory-index l.flat.memories)
