-- The bits of a constant: a truth value has one, and a label those of its number.
use Rattle.std.specs.Prelude.{ℕ, Bool, false, cond}
use Rattle.rv_base.specs.declared.value.Value.{Value}
use Rattle.rv_base.specs.declared.value.Value.TheVariants.{Flag, Label, Whole}
use Rattle.rv_bits.specs.Bits.{bit_of}

abbrev pub constant_bit : Value → ℕ → Bool
constant_bit (Flag t) b = bit_of (cond t 1 0) b
constant_bit (Label l) b = bit_of l b
constant_bit (Whole z) b = false
