use Rattle.std.proofs.Common.{◌≡◌, ◌++◌, map, drop}
use Rattle.rv_types.specs.Lists.{input_columns}
use Rattle.rv_flat.specs.Lists.{column_of}
use Rattle.rv_flatten.proofs.variables.add_input_columns.Given as goal

abbrev pub invariant-loop-number : goal.invariant-loop-number
invariant-loop-number l =
    map column_of l.columns ++ input_columns l.number (drop l.number l.inputs) ≡ map column_of l.initial.columns ++ input_columns 0 l.inputs
