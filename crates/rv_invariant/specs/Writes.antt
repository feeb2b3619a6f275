-- What a writer of certificates knows of the records that it makes, and of the diagrams that it has written.
use Rattle.std.specs.Prelude.{◌≡◌, ◌<◌, ◌^◌, ◌++◌, ℕ, List, [], length, Some, slice_get}
use Rattle.csv.specs.Records.{Row, fields_of, partial_of}
use Rattle.rv_diagram.specs.{Nodes.node_at, declared.Triple.Triple}
use Rattle.rv_proofs.specs.{declared.certificate.Location.Location, declared.certificate.Entry.Entry}
use Rattle.rv_invfile.specs.Rules.{Fields}
use Rattle.rv_invariant.specs.Certificates.{IsHeld}

-- A record has these fields, and no field is begun.
abbrev pub HasFields : Row → Fields → Type 0
HasFields row fields = (fields_of row ≡ fields) × (partial_of row ≡ [])

-- A record goes on by these fields.
abbrev pub Extends : Row → Row → Fields → Type 0
Extends old new more = (fields : Fields) → HasFields old fields → HasFields new (fields ++ more)

-- Each child is told in 32 bits.
abbrev pub AreHeld : List Triple → Type 0
AreHeld nodes = (n : ℕ) → n < length nodes → ((node_at nodes n).lo < 2 ^ 32) × ((node_at nodes n).hi < 2 ^ 32)

-- the conditions of these entries are held
abbrev pub HaveHeld : List Entry → Type 0
HaveHeld entries = (j : ℕ) (e : Entry) → slice_get entries j ≡ Some e → IsHeld e.condition

-- The diagrams of a location are held.
abbrev pub HasHeld : Location → Type 0
HasHeld l = IsHeld l.control × HaveHeld l.entries

-- The diagrams of these locations are held.
abbrev pub AllHeld : List Location → Type 0
AllHeld locations = (k : ℕ) (l : Location) → slice_get locations k ≡ Some l → HasHeld l
