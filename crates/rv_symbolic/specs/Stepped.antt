-- Projections, and one step from all valuations of a set of control states.
use Rattle.std.specs.Prelude.{◌≡◌, ◌↔◌, ℕ, Bool, true, false, IsTrue, List}
use Rattle.rv_diagram.specs.Nodes.{Valuation, Diagrams, value_of, IsOrderedOver}
use Rattle.rv_diagram.specs.{Several.SameBut, Several.IsUnused, declared.frozen.Frozen.Frozen, declared.store.several.Part.Part}
use Rattle.rv_proofs.specs.{Systems.System, Systems.HasSameState, Scopes.IsIn, Ranges.IsControlSet}
use Rattle.rv_symbolic.specs.{declared.relation.NextStates.NextStates, Linked.AreMet, declared.relation.Parts.Parts}

-- The diagram is true exactly where this holds for some values of the given variables, none of which is that of a node.
pub record IsProjected (m : ℕ) (over : Valuation) (holds : Valuation → Type 0) (f : Frozen) : Type 0 where
  pub ordered : IsOrderedOver m f
  pub exact : (v : Valuation) → IsIn f v ↔ ((w : Valuation) × SameBut over v w × holds w)
  pub unused : (x : ℕ) → over x ≡ true → IsUnused f.nodes x

-- A valuation is allowed, its control state is in the set, and all parts of the relation are true at it.
abbrev pub IsAStep : Diagrams → Parts → List Part → Frozen → Valuation → Type 0
IsAStep d p links from w = (value_of d.nodes p.allowed w ≡ true) × IsIn from w × AreMet d.nodes links w

-- Whether the observer is true at each allowed valuation of the set.
pub record IsJudged (d : Diagrams) (p : Parts) (from : Frozen) (good : Bool) : Type 0 where
  pub all_good : good ≡ true → (v : Valuation) → value_of d.nodes p.allowed v ≡ true → IsIn from v → value_of d.nodes p.observer v ≡ true
  pub some_bad : good ≡ false → (v : Valuation) × (value_of d.nodes p.allowed v ≡ true) × IsIn from v × (value_of d.nodes p.observer v ≡ false)

-- The set holds exactly the next control states of the allowed valuations whose control state is in `from`. Good says
-- that the observer is true at each of these valuations.
pub record AreNextStates (s : System) (from : Frozen) (n : NextStates) : Type 0 where
  pub control : IsControlSet s n.set
  pub exact : (v : Valuation) → IsIn n.set v ↔ ((w : Valuation) × IsTrue (s.allowed w) × IsIn from w × HasSameState s (s.next w) v)
  pub all_good : n.good ≡ true → (v : Valuation) → IsTrue (s.allowed v) → IsIn from v → IsTrue (s.observer v)
  pub some_bad : n.good ≡ false → (v : Valuation) × IsTrue (s.allowed v) × IsIn from v × (s.observer v ≡ false)
