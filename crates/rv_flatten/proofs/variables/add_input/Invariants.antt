use Rattle.std.proofs.Common.{◌≡◌, ◌++◌, map}
use Rattle.rv_types.specs.Lists.{Input, bits}
use Rattle.rv_flat.specs.Lists.{variable_of}
use Rattle.rv_flatten.proofs.variables.add_input.Given as goal

abbrev pub invariant-loop-bit : goal.invariant-loop-bit
invariant-loop-bit l = map variable_of l.bits ≡ map variable_of l.initial.bits ++ bits (Input l.number) l.bit
