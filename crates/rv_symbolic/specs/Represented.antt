-- When references in a store mean what a system of valuations is.
use Rattle.std.specs.Prelude.{◌≡◌, ℕ, ◌*◌, ◌<◌, ◌≤◌, ◌↔◌, List, length}
use Rattle.rv_diagram.specs.Nodes.{Valuation, Diagrams, IsRef, value_of}
use Rattle.rv_diagram.specs.{Several.ref_at, Several.IsSchedule, Several.ArePartRefs, declared.store.several.Part.Part}
use Rattle.rv_proofs.specs.Systems.{System, IsSystem}
use Rattle.rv_symbolic.specs.Linked.{AreRefs, AreLinked, AreMet, quantified}
use Rattle.rv_symbolic.specs.{declared.relation.Parts.Parts, declared.relation.Relation.Relation, Variables.AreAllBut}

-- The references are those of the store, which has a variable for each state bit and for its next copy.
pub record HaveRefs (d : Diagrams) (p : Parts) : Type 0 where
  pub allowed : IsRef d.nodes p.allowed
  pub observer : IsRef d.nodes p.observer
  pub initial : IsRef d.nodes p.initial
  pub next : AreRefs d.nodes p.next
  pub copies : 2 * length p.next ≤ d.variables

-- The references mean what the system is.
pub record AreParts (s : System) (d : Diagrams) (p : Parts) : Type 0 where
  pub variables : d.variables ≡ s.variables
  pub states : length p.next ≡ s.states
  pub allowed : (v : Valuation) → value_of d.nodes p.allowed v ≡ s.allowed v
  pub observer : (v : Valuation) → value_of d.nodes p.observer v ≡ s.observer v
  pub initial : (v : Valuation) → value_of d.nodes p.initial v ≡ s.initial v
  pub next : (i : ℕ) → i < s.states → (v : Valuation) → value_of d.nodes (ref_at p.next i) v ≡ s.next v (2 * i)

-- The references that a relation was made of.
abbrev pub parts_of : Relation → Parts
parts_of r = r.parts

-- The parts are true together exactly between a valuation and its next control state, no part reads a variable that an
-- earlier one quantifies, and together they quantify all variables but the first ones 2 i + p.
pub record IsRelation (d : Diagrams) (next : List ℕ) (p : ℕ) (parts : List Part) : Type 0 where
  pub refs : ArePartRefs d.nodes parts
  pub schedule : IsSchedule d.nodes parts
  pub exact : (v : Valuation) → AreMet d.nodes parts v ↔ AreLinked d.nodes next v
  pub over : AreAllBut d.variables (length next) p (quantified parts)

-- The same, which a search does not look into.
unfoldable pub AreLinks : Diagrams → List ℕ → ℕ → List Part → Type 0
AreLinks d next p parts = IsRelation d next p parts

-- All references are those of the store, and the parts forth and back are those of the relation between a valuation and its next control state.
pub record IsLaidOut (d : Diagrams) (r : Relation) : Type 0 where
  pub refs : HaveRefs d r.parts
  pub few : d.variables ≤ 4096
  pub forth : AreLinks d r.parts.next 1 r.forth
  pub back : AreLinks d r.parts.next 0 r.back

-- The references have in the store the meanings of the system.
pub record IsRelationOf (s : System) (d : Diagrams) (r : Relation) : Type 0 where
  pub system : IsSystem s
  pub laid_out : IsLaidOut d r
  pub parts : AreParts s d r.parts
