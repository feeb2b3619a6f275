use Rattle.std.proofs.Common.{◌≡◌, map, drop}
use Rattle.rv_sizes.specs.Sizes.{first_above}
use Rattle.rv_types.specs.Values.{label_count}
use Rattle.rv_sizes.proofs.declared_sizes.labels_above.Given as goal

abbrev pub invariant-loop-declared : goal.invariant-loop-declared
invariant-loop-declared l = first_above 256 (map label_count (drop l.declared-index l.types)) ≡ first_above 256 (map label_count l.types)
