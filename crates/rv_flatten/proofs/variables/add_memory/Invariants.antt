use Rattle.std.proofs.Common.{◌≡◌, ◌++◌, map}
use Rattle.rv_types.specs.Lists.{Kept, bits, with_copies}
use Rattle.rv_flat.specs.Lists.{variable_of}
use Rattle.rv_flatten.proofs.variables.add_memory.Given as goal

abbrev pub invariant-loop-bit : goal.invariant-loop-bit
invariant-loop-bit l = map variable_of l.bits ≡ map variable_of l.initial.bits ++ with_copies (bits (Kept l.place.sites) l.bit)
