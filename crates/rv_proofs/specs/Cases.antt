-- Cases of a system: what an instant is throughout a condition, and cases that part the allowed valuations of a set of
-- control states. Images and preimages of sets of control states by a case, and the set of the initial ones.
use Rattle.std.specs.Prelude.{◌≡◌, ◌↔◌, ℕ, ◌<◌, List, length, Some, IsTrue, slice_get, None as Nothing}
use Rattle.std.specs.List.{Contains}
use Rattle.rv_diagram.specs.{Nodes.Valuation, declared.frozen.Frozen.Frozen}
use Rattle.rv_rows.specs.declared.linear.Row.{Row}
use Rattle.rv_proofs.specs.Systems.{System, HasSameState, updates_of}
use Rattle.rv_proofs.specs.{Scopes.IsIn, Ranges.IsControlSet, Ranges.IsCondition, declared.report.Case.Case}

-- A case that may be handed in: its condition is an ordered diagram that reads no next copy, and is true of allowed
-- valuations only.
pub record IsCase (s : System) (c : Case) : Type 0 where
  pub condition : IsCondition s c.condition
  pub allowed : (v : Valuation) → IsIn c.condition v → IsTrue (s.allowed v)

-- The tests of the case, in rising order, are those that are present throughout its condition, each with one row, the
-- one that `rows` has in the same position. Every other test is absent throughout.
pub record AreCaseTests (s : System) (c : Case) : Type 0 where
  pub known : (i t : ℕ) → slice_get c.tests i ≡ Some t → t < s.tests
  pub rising : (i j t u : ℕ) → i < j → slice_get c.tests i ≡ Some t → slice_get c.tests j ≡ Some u → t < u
  pub counts : length c.rows ≡ length c.tests
  pub present : (i t : ℕ) (r : Row) (v : Valuation) → slice_get c.tests i ≡ Some t → slice_get c.rows i ≡ Some r → IsIn c.condition v → s.row v t ≡ Some r
  pub absent : (t : ℕ) (v : Valuation) → t < s.tests → ¬ Contains c.tests t → IsIn c.condition v → s.row v t ≡ Nothing

-- A case of the system: its condition is not empty, and throughout it the tests are as the case says, each integer
-- memory becomes the form that the case gives, and the observer is the case's.
pub record IsCaseOf (s : System) (c : Case) : Type 0 where
  pub given : IsCase s c
  pub some : (v : Valuation) × IsIn c.condition v
  pub tests : AreCaseTests s c
  pub updates : (v : Valuation) → IsIn c.condition v → updates_of s v ≡ c.updates
  pub observer : (v : Valuation) → IsIn c.condition v → s.observer v ≡ c.observer

-- The cases of a set of control states: each allowed valuation whose control state is in the set is in exactly one
-- condition, and no other valuation is in any.
pub record AreCases (s : System) (from : Frozen) (cases : List Case) : Type 0 where
  pub each : (j : ℕ) (c : Case) → slice_get cases j ≡ Some c → IsCaseOf s c
  pub covered : (v : Valuation) → IsTrue (s.allowed v) → IsIn from v → (j : ℕ) × (c : Case) × (slice_get cases j ≡ Some c) × IsIn c.condition v
  pub apart : (i j : ℕ) (b c : Case) (v : Valuation) → slice_get cases i ≡ Some b → slice_get cases j ≡ Some c → IsIn b.condition v → IsIn c.condition v → i ≡ j
  pub within : (j : ℕ) (c : Case) (v : Valuation) → slice_get cases j ≡ Some c → IsIn c.condition v → IsIn from v

-- The set holds exactly the next control states of those valuations of the case whose control state is in `from`.
pub record IsImage (s : System) (from : Frozen) (c : Case) (set : Frozen) : Type 0 where
  pub control : IsControlSet s set
  pub exact : (v : Valuation) → IsIn set v ↔ ((w : Valuation) × IsIn from w × IsIn c.condition w × HasSameState s (s.next w) v)

-- The set holds exactly the control states of the case with a valuation that leads into `to`.
pub record IsPreimage (s : System) (to : Frozen) (c : Case) (set : Frozen) : Type 0 where
  pub control : IsControlSet s set
  pub exact : (v : Valuation) → IsIn set v ↔ ((w : Valuation) × HasSameState s w v × IsIn c.condition w × IsIn to (s.next w))

-- The set holds exactly the initial control states.
pub record IsInitialSet (s : System) (set : Frozen) : Type 0 where
  pub control : IsControlSet s set
  pub exact : (v : Valuation) → IsIn set v ↔ IsTrue (s.initial v)
