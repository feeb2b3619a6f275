-- The control states outside of a set to which valuations lead.
use Rattle.std.specs.Prelude.{◌≡◌, ◌↔◌, ◌⊎◌, ℕ, true, false, not, ◌&&◌, List, IsTrue}
use Rattle.rv_diagram.specs.{Nodes.Valuation, Nodes.Diagrams, Nodes.IsRef, Nodes.value_of, Nodes.IsOrderedOver, Several.UsesNeeded}
use Rattle.rv_diagram.specs.{declared.Triple.Triple, declared.frozen.Frozen.Frozen}
use Rattle.rv_proofs.specs.{Systems.System, Systems.HasSameState, Systems.IsSameValuation, Scopes.IsIn, Ranges.IsControlSet, Ranges.IsCondition}

-- The valuations at which the reference is true are allowed, with control states in the set. Next copies do not count.
pub record AreTakenFrom (s : System) (nodes : List Triple) (from : Frozen) (taken : ℕ) : Type 0 where
  pub found : IsRef nodes taken
  pub same : (v w : Valuation) → IsSameValuation s v w → value_of nodes taken v ≡ value_of nodes taken w
  pub allowed : (v : Valuation) → value_of nodes taken v ≡ true → IsTrue (s.allowed v)
  pub inside : (v : Valuation) → value_of nodes taken v ≡ true → IsIn from v

-- The diagram is true where the first reference is and the second is not, and reads no more than it needs.
pub record IsApart (d : Diagrams) (taken inside : ℕ) (f : Frozen) : Type 0 where
  pub ordered : IsOrderedOver d.variables f
  pub means : (v : Valuation) → value_of f.nodes f.root v ≡ (value_of d.nodes taken v && not (value_of d.nodes inside v))
  pub needed : UsesNeeded f.nodes (λ v. value_of d.nodes taken v && not (value_of d.nodes inside v))

-- The condition holds exactly the valuations at which the reference is true and whose next control state is outside of the set.
pub record AreOutside (s : System) (nodes : List Triple) (from : Frozen) (taken : ℕ) (f : Frozen) : Type 0 where
  pub condition : IsCondition s f
  pub exact : (v : Valuation) → IsIn f v ↔ ((value_of nodes taken v ≡ true) × (value_of from.nodes from.root (s.next v) ≡ false))

-- The set holds next control states of valuations at which the reference is true, and each of these valuations leads into it or into the old one.
pub record AreLeft (s : System) (nodes : List Triple) (from : Frozen) (taken : ℕ) (set : Frozen) : Type 0 where
  pub control : IsControlSet s set
  pub made : (v : Valuation) → IsIn set v → (w : Valuation) × (value_of nodes taken w ≡ true) × HasSameState s (s.next w) v
  pub there : (w : Valuation) → value_of nodes taken w ≡ true → (IsIn set (s.next w)) ⊎ (IsIn from (s.next w))
