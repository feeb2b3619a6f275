-- Integers outside the range.
use Rattle.std.specs.Prelude.{ℕ, ◌⊎◌, ◌^◌, ℤ, pos, ◌-ℤ◌, Bool, false, ◌||◌, int_lt, int_le, List, length, Option, Some, slice_index_or, None as Nothing}
use Rattle.rv_base.specs.declared.value.Value.{Value}
use Rattle.rv_base.specs.declared.value.Value.TheVariants.{Flag, Label, Whole}
use Rattle.rv_tree.specs.Places.{Sites}
use Rattle.rv_flat.specs.{declared.flat.Flat.Flat, Earliest.IsPicked, FlatInstants.Row, FlatInstants.nth, FlatInstants.places, FlatInstants.memory_places}

-- whether an integer is below -2^63 or above 2^63 - 1
abbrev pub is_outside : ℤ → Bool
is_outside z = int_lt z (pos 0 -ℤ pos (2 ^ 63)) || int_le (pos (2 ^ 63)) z

-- whether a value is one
abbrev pub is_grown : Value → Bool
is_grown (Flag b) = false
is_grown (Label l) = false
is_grown (Whole z) = is_outside z

abbrev pub is_grown_cell : Option Value → Bool
is_grown_cell Nothing = false
is_grown_cell (Some v) = is_grown v

-- whether the flow, or the memory, with a number has one
abbrev pub is_grown_flow : Row → ℕ → Bool
is_grown_flow row k = is_grown_cell (nth row k)

abbrev pub is_grown_memory : List Value → ℕ → Bool
is_grown_memory kept m = is_grown (slice_index_or kept m (Flag false))

-- the flow or the memory at a place has one
abbrev pub IsGrownAt : Flat → Row → List Value → Sites → Type 0
IsGrownAt f row kept q = IsPicked (is_grown_flow row) (places f) (length f.flows) q ⊎ IsPicked (is_grown_memory kept) (memory_places f) (length f.memories) q
