use Rattle.std.proofs.Common.{◌≡◌, ◌++◌, map, drop}
use Rattle.rv_agreement.specs.Valuations.{comparisons_of}
use Rattle.rv_flat.specs.{FlatInstants.system_of, Inlined.all_inlined, Inlined.table_of, RawTree.raw_tree, RawTree.raw_trees}
use Rattle.rv_tested.specs.Compared.{comparison_in}
use Rattle.rv_tested.proofs.compared.+gather.Given as goal

abbrev pub invariant-gather_all-loop-e : goal.invariant-gather_all-loop-e
invariant-gather_all-loop-e l =
    map (comparison_in l.flat.memories) l.found
    ++ comparisons_of (system_of l.flat).flows l.clock (all_inlined (table_of l.flat.memories) (raw_trees (map raw_tree (drop l.e-index l.expressions))))
    ≡ map (comparison_in l.flat.memories) l.fn.found
    ++ comparisons_of (system_of l.flat).flows l.clock (all_inlined (table_of l.flat.memories) (raw_trees (map raw_tree l.expressions)))
