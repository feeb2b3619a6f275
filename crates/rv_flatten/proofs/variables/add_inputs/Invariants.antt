use Rattle.std.proofs.Common.{◌≡◌, ◌++◌, map, drop}
use Rattle.rv_flat.specs.Lists.{variable_of}
use Rattle.rv_flatten.specs.VariableLists.{given_variables}
use Rattle.rv_flatten.proofs.variables.add_inputs.Given as goal

abbrev pub invariant-loop-number : goal.invariant-loop-number
invariant-loop-number l =
    map variable_of l.bits ++ given_variables l.types l.number (drop l.number l.inputs) ≡ map variable_of l.initial.bits ++ given_variables l.types 0 l.inputs
