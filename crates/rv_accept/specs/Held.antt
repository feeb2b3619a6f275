-- What a checker has of a system: references in a store that mean what the system is. And what it builds of them.
use Rattle.std.specs.Prelude.{◌≡◌, ℕ, ◌+◌, ◌/◌, ◌<◌, false, Bool, List, IsTrue, length, Some, slice_get}
use Rattle.rv_diagram.specs.{declared.Triple.Triple, Nodes.Valuation, Nodes.Diagrams, Nodes.value_of, Nodes.valuation_of, Nodes.node_at, Several.ref_at}
use Rattle.rv_symbolic.specs.{Represented.HaveRefs, Represented.AreParts, declared.relation.Parts.Parts}
use Rattle.rv_proofs.specs.{Systems.System, Systems.IsSystem, Scopes.IsIn, Scopes.IsInScope, Verdicts.IsWord, declared.certificate.Location.Location}
use Rattle.rv_proofs.specs.{declared.certificate.Entry.Entry, declared.certificate.Certificate.Certificate}
use Rattle.rv_accept.specs.Steps.{IsTrueOf, AreRefs, has}

-- The references are those of the store, and mean what the system is.
pub record IsHeld (s : System) (d : Diagrams) (p : Parts) : Type 0 where
  pub system : IsSystem s
  pub refs : HaveRefs d p
  pub means : AreParts s d p

-- The reference is true of the allowed valuations of a location.
abbrev pub IsWithin : System → Location → Diagrams → ℕ → Type 0
IsWithin s l d r = IsTrueOf d (λ v. IsTrue (s.allowed v) × IsIn l.control v) r

-- The reference is true of the scope of an entry.
abbrev pub IsScope : System → Location → Entry → Diagrams → ℕ → Type 0
IsScope s l e d r = IsTrueOf d (IsInScope s l e) r

-- the next control state, where state bit i is variable 2 i
abbrev pub follow : Diagrams → List ℕ → Valuation → Valuation
follow d next v x = value_of d.nodes (ref_at next (x / 2)) v

-- The nodes read the first n state bits alone.
abbrev pub ReadsNext : ℕ → List Triple → Type 0
ReadsNext n nodes = (i : ℕ) → i < length nodes → (node_at nodes i).var / 2 < n

-- The first nodes have become these references, each true where the node is true of the next control state.
abbrev pub AreMoved : Diagrams → List ℕ → List Triple → List ℕ → Type 0
AreMoved d next nodes moved = (n : ℕ) → n < length moved → (v : Valuation) → value_of d.nodes (ref_at moved n) v ≡ value_of nodes (n + 2) (follow d next v)

-- There is a reference for each location, true of the valuations whose next control state is in its control set.
pub record AreLedInto (s : System) (c : Certificate) (d : Diagrams) (led : List ℕ) : Type 0 where
  pub size : length led ≡ length c.locations
  pub refs : AreRefs d led
  pub means : (k : ℕ) (l : Location) → slice_get c.locations k ≡ Some l → (v : Valuation)
      → value_of d.nodes (ref_at led k) v ≡ has l.control (s.next v)

-- a valuation of the scope at which the observer is false
pub record IsUnseen (s : System) (l : Location) (e : Entry) (digits : List Bool) : Type 0 where
  pub word : IsWord s digits
  pub scope : IsInScope s l e (valuation_of digits)
  pub fails : s.observer (valuation_of digits) ≡ false

-- a valuation of the scope whose next control state is not in the target
pub record IsElsewhere (s : System) (l : Location) (e : Entry) (target : Location) (digits : List Bool) : Type 0 where
  pub word : IsWord s digits
  pub scope : IsInScope s l e (valuation_of digits)
  pub elsewhere : ¬ IsIn target.control (s.next (valuation_of digits))
