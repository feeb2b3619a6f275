use Rattle.std.proofs.Common.{◌≡◌, ◌++◌, map, drop}
use Rattle.rv_types.specs.Names.{labels_of, texts}
use Rattle.rv_flatten.proofs.naming.labels_of.Given as goal

abbrev pub invariant-loop-declared : goal.invariant-loop-declared
invariant-loop-declared l = l.made ++ map (λ d. texts (labels_of d)) (drop l.declared-index l.types) ≡ map (λ d. texts (labels_of d)) l.types
