use Rattle.std.proofs.Common.{map}
use Rattle.rv_types.specs.Lists.{Input}
use Rattle.rv_agreement.specs.Trees.{kind_at}
use Rattle.rv_flat.specs.{Lists.variable_of, Steps.label_counts, Steps.input_kinds}
use Rattle.rv_bits.specs.Tables.{AreBitLists}
use Rattle.rv_bits.proofs.tables.input_refs.Given as goal

abbrev pub invariant-loop-number : goal.invariant-loop-number
invariant-loop-number l = record {
  read : AreBitLists (label_counts l.flat) (map variable_of l.flat.variables) Input (kind_at (input_kinds l.flat)) l.initial.store l.store l.number l.lists;
}
