-- The relation between a control state and the next one: each next copy has the value that its state bit takes.
use Rattle.std.specs.Prelude.{◌≡◌, ℕ, ◌+◌, ◌*◌, ◌<◌, ◌≤◌, ◌↔◌, Bool, true, List, length}
use Rattle.rv_diagram.specs.Nodes.{Valuation, Diagrams, IsRef, value_of, valuation_of}
use Rattle.rv_diagram.specs.Several.{SameBut, ref_at, part_at, gone, IsSchedule}
use Rattle.rv_diagram.specs.{declared.Triple.Triple, declared.frozen.Frozen.Frozen, declared.store.several.Part.Part}
use Rattle.rv_diagram.specs.Growing.{Extends}
use Rattle.rv_proofs.specs.Scopes.{IsIn}

abbrev pub AreRefs : List Triple → List ℕ → Type 0
AreRefs nodes next = (i : ℕ) → i < length next → IsRef nodes (ref_at next i)

-- the next copies from k on and below n have the values of their references
abbrev pub AreLinkedBetween : List Triple → List ℕ → ℕ → ℕ → Valuation → Type 0
AreLinkedBetween nodes next k n v = (i : ℕ) → k ≤ i → i < n → v (2 * i + 1) ≡ value_of nodes (ref_at next i) v

-- Each next copy has the value of its reference.
abbrev pub AreLinked : List Triple → List ℕ → Valuation → Type 0
AreLinked nodes next v = (i : ℕ) → i < length next → v (2 * i + 1) ≡ value_of nodes (ref_at next i) v

-- All references of the list are true at v.
abbrev pub AreAllTrue : List Triple → List ℕ → Valuation → Type 0
AreAllTrue nodes relations v = (i : ℕ) → i < length relations → value_of nodes (ref_at relations i) v ≡ true

-- The calls gave references that are true together where the next copies from k on and below n have their values.
pub record AreParted (old new : Diagrams) (next : List ℕ) (k n : ℕ) (relations : List ℕ) : Type 0 where
  pub extends : Extends old new
  pub refs : AreRefs new.nodes relations
  pub exact : (v : Valuation) → AreAllTrue new.nodes relations v ↔ AreLinkedBetween old.nodes next k n v

-- All parts of a relation are true at v.
abbrev pub AreMet : List Triple → List Part → Valuation → Type 0
AreMet nodes parts v = (i : ℕ) → i < length parts → value_of nodes (part_at parts i).relation v ≡ true

-- the variables that the parts quantify
abbrev pub quantified : List Part → Valuation
quantified parts = gone parts (length parts)

-- The parts have these references in their order, none reads a variable that an earlier one quantifies, and together they quantify the given variables.
pub record AreScheduled (nodes : List Triple) (relations : List ℕ) (given : List Bool) (parts : List Part) : Type 0 where
  pub size : length parts ≡ length relations
  pub same : (i : ℕ) → i < length parts → (part_at parts i).relation ≡ ref_at relations i
  pub schedule : IsSchedule nodes parts
  pub over : (x : ℕ) → quantified parts x ≡ valuation_of given x

-- For some values of the variables that the parts quantify v is in both sets and in the relation.
abbrev pub Meets : List Triple → Frozen → Frozen → List Part → Valuation → Type 0
Meets nodes a b parts v =
    (w : Valuation) × SameBut (quantified parts) v w × (IsIn a w × IsIn b w × AreMet nodes parts w)
