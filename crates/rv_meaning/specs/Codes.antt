-- Numbers of labels, spelled by bits.
use Rattle.std.specs.Prelude.{ℕ, zero, suc, ◌+◌, ◌^◌, Bool, cond}

-- the number that so many bits spell, bit 0 the least significant
abbrev pub code : ℕ → (ℕ → Bool) → ℕ
code zero bits = 0
code (suc n) bits = code n bits + cond (bits n) (2 ^ n) 0
