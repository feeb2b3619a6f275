-- What the reading of a whole text is to answer.
use Rattle.std.specs.Prelude.{◌≡◌, ℕ, List, Result, Ok, Err}
use Rattle.rv_syntax.specs.{declared.fault.TextFault.TextFault, Faults.IsFault}
use Rattle.rv_syntax.specs.declared.fault.TextFault.TheVariants as fault

-- the answer is this value, unless memory ran out
abbrev pub Finds : {X A : Type 0} → (X → A) → A → Result X TextFault → Type 0
Finds view a (Ok x) = view x ≡ a
Finds view a (Err fault.Memory) = Unit {0}
Finds view a (Err (fault.BadText at)) = ⊥
Finds view a (Err (fault.TooDeep at)) = ⊥
Finds view a (Err (fault.LeftOut at)) = ⊥

-- a fault of this text, or want of memory
abbrev pub Explains : List ℕ → TextFault → Type 0
Explains text fault.Memory = Unit {0}
Explains text (fault.BadText at) = IsFault text (fault.BadText at)
Explains text (fault.TooDeep at) = IsFault text (fault.TooDeep at)
Explains text (fault.LeftOut at) = IsFault text (fault.LeftOut at)

abbrev pub IsOrMemory : TextFault → TextFault → Type 0
IsOrMemory f fault.Memory = Unit {0}
IsOrMemory f (fault.BadText at) = f ≡ fault.BadText at
IsOrMemory f (fault.TooDeep at) = f ≡ fault.TooDeep at
IsOrMemory f (fault.LeftOut at) = f ≡ fault.LeftOut at

-- the answer is this fault, unless memory ran out
abbrev pub Refuses : {X : Type 0} → TextFault → Result X TextFault → Type 0
Refuses f (Ok x) = ⊥
Refuses f (Err e) = IsOrMemory f e
