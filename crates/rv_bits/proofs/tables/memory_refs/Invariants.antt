use Rattle.std.proofs.Common.{map}
use Rattle.rv_agreement.specs.Trees.{kind_at}
use Rattle.rv_flat.specs.{Lists.variable_of, Steps.label_counts, Steps.memory_kinds}
use Rattle.rv_bits.specs.Tables.{AreBitLists, memory_bit}
use Rattle.rv_bits.proofs.tables.memory_refs.Given as goal

abbrev pub invariant-loop-memory : goal.invariant-loop-memory
invariant-loop-memory l = record {
  read : AreBitLists (label_counts l.flat) (map variable_of l.flat.variables) (memory_bit l.flat) (kind_at (memory_kinds l.flat)) l.initial.store l.store
      l.memory-index l.lists;
}
