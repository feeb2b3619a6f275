-- The fault that comes first of a list, as one is picked after the other.
use Rattle.std.specs.Prelude.{ℕ, ◌+◌, ◌*◌, cond, nat_le, List, [], ◌∷◌, Option, Some, None}
use Rattle.rv_types.specs.{declared.fault.NameFault.NameFault, Faults.offset, Faults.number}

-- offset and number as one key; numbers are below 16
abbrev pub rank : NameFault → ℕ
rank f = offset f * 16 + number f

abbrev pub sooner : Option NameFault → Option NameFault → Option NameFault
sooner None g = g
sooner (Some f) None = Some f
sooner (Some f) (Some g) = cond (nat_le (rank f) (rank g)) (Some f) (Some g)

abbrev pub first : List NameFault → Option NameFault
first [] = None
first (f ∷ fs) = sooner (Some f) (first fs)
