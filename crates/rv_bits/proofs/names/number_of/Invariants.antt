use Rattle.std.proofs.Common.{◌≡◌, ℕ, ◌<◌, false, map}
use Rattle.std.specs.Prelude.{slice_index_or}
use Rattle.rv_types.specs.Lists.{Next}
use Rattle.rv_flat.specs.Lists.{variable_of}
use Rattle.rv_control.specs.Named.{same_variable}
use Rattle.rv_bits.specs.Names.{variable_named}
use Rattle.rv_bits.proofs.names.number_of.Given as goal

abbrev pub invariant-loop-number : goal.invariant-loop-number
invariant-loop-number l = record {
  none : (k : ℕ) → k < l.number → same_variable (slice_index_or (map variable_of l.variables) k Next) (variable_named l.name) ≡ false;
}
