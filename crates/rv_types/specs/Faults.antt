-- Faults, their order, and the first of several.
use Rattle.std.specs.{Prelude.◌≡◌, Prelude.ℕ, Prelude.◌<◌, Prelude.◌≤◌, Prelude.◌⊎◌, Prelude.List, Prelude.[], Prelude.◌∷◌, List.Contains}
use Rattle.rv_types.specs.declared.fault.NameFault.{NameFault}
use Rattle.rv_types.specs.declared.fault.NameFault.TheVariants.{NoNode, UnknownName, DefinedTwice, Undefined, TypeClash, Nonlinear, ClockClash, NotObserver}
use Rattle.rv_types.specs.declared.fault.NameFault.TheVariants.{Memory}

-- the offset of a fault, 0 where it has none
abbrev pub offset : NameFault → ℕ
offset NoNode = 0
offset (UnknownName at) = at
offset (DefinedTwice at) = at
offset (Undefined at) = at
offset (TypeClash at) = at
offset (Nonlinear at) = at
offset (ClockClash at) = at
offset (NotObserver at) = at
offset Memory = 0

-- the number by which a fault is printed; want of memory, which is no fault of a program, has none
abbrev pub number : NameFault → ℕ
number NoNode = 4
number (UnknownName at) = 5
number (DefinedTwice at) = 6
number (Undefined at) = 7
number (TypeClash at) = 8
number (Nonlinear at) = 9
number (ClockClash at) = 10
number (NotObserver at) = 11
number Memory = 0

-- a fault comes before another by its offset, and at one offset by its number
abbrev pub ComesBefore : NameFault → NameFault → Type 0
ComesBefore f g = (offset f < offset g) ⊎ ((offset f ≡ offset g) × (number f ≤ number g))

-- the fault of a list before which none comes
abbrev pub IsFirst : NameFault → List NameFault → Type 0
IsFirst f fs = Contains fs f × ((g : NameFault) → Contains fs g → ComesBefore f g)

-- the first fault of the first group that has one
abbrev pub IsFirstOfGroups : List (List NameFault) → NameFault → Type 0
IsFirstOfGroups [] f = ⊥
IsFirstOfGroups (fs ∷ groups) f = IsFirst f fs ⊎ ((fs ≡ []) × IsFirstOfGroups groups f)
