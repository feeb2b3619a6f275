use Rattle.std.proofs.Common.{◌≡◌, ◌++◌, List, map, drop}
use Rattle.rv_types.specs.declared.typed.Kind.{Kind}
use Rattle.rv_sizes.specs.{Capped.capped, Memories.integers}
use Rattle.rv_sizes.proofs.memory_sizes.integer_memories_of.Given as goal

abbrev pub invariant-loop-of_node : goal.invariant-loop-of_node
invariant-loop-of_node l =
    l.own ++ map (λ (ks : List Kind). capped (integers ks)) (drop l.of_node-index l.kinds)
    ≡ map (λ (ks : List Kind). capped (integers ks)) l.kinds
