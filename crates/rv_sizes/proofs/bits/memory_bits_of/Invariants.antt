use Rattle.std.proofs.Common.{◌≡◌, ◌++◌, List, map, drop}
use Rattle.rv_types.specs.declared.typed.Kind.{Kind}
use Rattle.rv_instances.specs.Bits.{bits_of_all}
use Rattle.rv_sizes.specs.Capped.{capped}
use Rattle.rv_sizes.proofs.bits.memory_bits_of.Given as goal

abbrev pub invariant-loop-of_node : goal.invariant-loop-of_node
invariant-loop-of_node l =
    l.own ++ map (λ (ks : List Kind). capped (bits_of_all l.types ks)) (drop l.of_node-index l.kinds)
    ≡ map (λ (ks : List Kind). capped (bits_of_all l.types ks)) l.kinds
