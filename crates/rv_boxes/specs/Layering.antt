-- Where a claim takes a valuation, in a store.
use Rattle.std.specs.Prelude.{◌≡◌, ◌↔◌, ℕ, Bool, true}
use Rattle.rv_diagram.specs.{Nodes.Valuation, Nodes.Diagrams, Nodes.IsRef, Nodes.value_of}
use Rattle.rv_proofs.specs.{Systems.System, Boxes.BoxClaim, Boxes.IsTaken}
use Rattle.rv_symbolic.specs.{declared.relation.Parts.Parts, declared.relation.Relation.Relation, Represented.IsRelationOf}
use Rattle.rv_boxes.specs.{Narrowed.narrowed}

-- The reference is true exactly where the claim takes the valuation.
pub record IsTakenAt (s : System) (d : Diagrams) (c : BoxClaim) (r : ℕ) : Type 0 where
  pub found : IsRef d.nodes r
  pub exact : (v : Valuation) → (value_of d.nodes r v ≡ true) ↔ IsTaken s c v

-- The same parts, but for which valuations are allowed.
pub record ArePartsWith (old : Parts) (allowed : ℕ) (new : Parts) : Type 0 where
  pub allowed_is : new.allowed ≡ allowed
  pub observer : new.observer ≡ old.observer
  pub initial : new.initial ≡ old.initial
  pub next : new.next ≡ old.next

-- The relation is that of the system whose allowed valuations are those that the claim takes, without integers.
pub record IsNarrowedTo (s : System) (d : Diagrams) (c : BoxClaim) (r : Relation) : Type 0 where
  pub taken : Valuation → Bool
  pub exact : (v : Valuation) → (taken v ≡ true) ↔ IsTaken s c v
  pub relation : IsRelationOf (narrowed s taken) d r
