-- What reading says of records, from a first number on.
use Rattle.std.specs.Prelude.{◌≡◌, ◌⊎◌, List, Result, Ok, Err}
use Rattle.rv_invfile.specs.{declared.fault.FileFault.FileFault, Rules.Fields, Rules.Rule, Rules.IsDocument, Faults.IsFirstFault}
use Rattle.rv_invfile.specs.declared.fault.FileFault.TheVariants as fault

-- an answer says what the records are
abbrev pub Tells : {A : Type 0} → Rule A → List Fields → Result A FileFault → Type 0
Tells rule rs (Ok a) = IsDocument rule rs a
Tells rule rs (Err e) = IsFirstFault rule rs e

-- The value that is read is this one, unless memory ran out.
abbrev pub Finds : {A : Type 0} → A → Result A FileFault → Type 0
Finds a (Ok b) = a ≡ b
Finds a (Err e) = e ≡ fault.Memory

-- The fault is the first one of the records, or memory ran out.
abbrev pub Explains : {A : Type 0} → Rule A → List Fields → FileFault → Type 0
Explains rule rs e = (e ≡ fault.Memory) ⊎ IsFirstFault rule rs e

-- The fault that is read is this one, unless memory ran out.
abbrev pub Refuses : {A : Type 0} → FileFault → Result A FileFault → Type 0
Refuses f (Ok b) = ⊥
Refuses f (Err e) = (e ≡ fault.Memory) ⊎ (e ≡ f)
