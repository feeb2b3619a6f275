use Rattle.std.proofs.Common.{◌≡◌, ◌++◌, map, drop}
use Rattle.rv_types.specs.Lists.{memory_columns}
use Rattle.rv_flatten.specs.Kept.{kept_memory}
use Rattle.rv_flat.specs.Lists.{column_of}
use Rattle.rv_flatten.proofs.variables.add_kept_columns.Given as goal

abbrev pub invariant-loop-memory : goal.invariant-loop-memory
invariant-loop-memory l =
    map column_of l.columns ++ memory_columns (map kept_memory (drop l.memory-index l.kept))
    ≡ map column_of l.initial.columns ++ memory_columns (map kept_memory l.kept)
