-- What a part reads whose end is told by what follows it.
use Rattle.std.specs.Prelude.{◌≡◌, ◌⊎◌, ℕ, List, Option, Result, Ok, Err}
use Rattle.rv_proofs.specs.declared.certificate.Certificate.{Certificate}
use Rattle.rv_invfile.specs.{declared.fault.FileFault.FileFault, Rules.Fields, Rules.Form, Rules.Rule, Rules.await, Readers.Ahead, Readers.Reading, Readers.run}
use Rattle.rv_invfile.specs.declared.fault.FileFault.TheVariants as fault

-- What is known of the numbers of entry rows of locations, by the records so far.
abbrev pub Known : Type 0
Known = List (Option ℕ)

-- What comes after a part, by its value and what is known then.
abbrev pub Then : Type 0 → Type 0
Then X = X → Known → Rule Certificate

-- A rule awaits a record.
abbrev pub Waits : Rule Certificate → Type 0
Waits rule = (forms : List Form) × (next : Fields → Rule Certificate) × (rule ≡ await forms next)

abbrev pub AllWait : {X : Type 0} → Then X → Type 0
AllWait {X = X} next = (x : X) (known : Known) → Waits (next x known)

-- Reading the part and then what comes after it is reading that at what was returned; or it stops with the fault, whatever
-- comes after it, unless memory ran out.
abbrev pub Continues : {X : Type 0} → (Then X → Reading Certificate) → Result X FileFault → Known → Ahead → Type 0
Continues {X = X} reading (Ok x) known new = (next : Then X) → AllWait next → reading next ≡ run (next x known) new
Continues {X = X} reading (Err e) known new = (e ≡ fault.Memory) ⊎ ((next : Then X) → AllWait next → reading next ≡ Err e)
