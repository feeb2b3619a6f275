-- Diagram variables by name, as the code has them.
use Rattle.std.specs.Prelude.{ℕ}
use Rattle.rv_types.specs.Lists.{Variable}
use Rattle.rv_types.specs.Lists as lists
use Rattle.rv_flat.specs.Lists.{side_of}
use Rattle.rv_bits.specs.{declared.names.Named.Named, declared.names.Owner.Owner}
use Rattle.rv_bits.specs.declared.names.Named.TheVariants as name
use Rattle.rv_bits.specs.declared.names.Owner.TheVariants as owner

-- the variable of this name
abbrev pub variable_named : Named → Variable
variable_named name.MainTick = lists.MainTick
variable_named (name.Tick p) = lists.Tick p.now.sites
variable_named (name.Kept p b) = lists.Kept p.now.sites b
variable_named (name.Input j b) = lists.Input j b
variable_named (name.Test p s) = lists.Test p.now.sites (side_of s)

-- the variable of a bit of a memory or of an input
abbrev pub owned : Owner → ℕ → Variable
owned (owner.Memory p) b = lists.Kept p.now.sites b
owned (owner.Input j) b = lists.Input j b
