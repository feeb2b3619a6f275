-- Left partitions: what an analysis has where it neither proves nor refutes.
use Rattle.std.specs.Prelude.{◌≡◌, ◌⊎◌, ℕ, ◌<◌, false, List, length, Some, slice_get, All}
use Rattle.std.specs.List.{Contains}
use Rattle.rv_diagram.specs.Nodes.{Valuation}
use Rattle.rv_proofs.specs.Accepted.{IsPartition, IsEntry, IsStepKind, IsDeadKind, IsObserved, AreImplied}
use Rattle.rv_proofs.specs.{Systems.System, Systems.HasSameState, Scopes.IsIn, Scopes.IsInScope, declared.certificate.Certificate.Certificate}
use Rattle.rv_proofs.specs.{declared.certificate.Location.Location, declared.certificate.Entry.Entry, declared.report.LeftReport.LeftReport}
use Rattle.rv_proofs.specs.{declared.report.Why.Why, declared.report.Why.TheVariants.Locations, declared.report.Why.TheVariants.Stuck}

-- The observer is false throughout the scope.
abbrev pub IsNeverObserved : System → Location → Entry → Type 0
IsNeverObserved s l e = (v : Valuation) → IsInScope s l e v → s.observer v ≡ false

-- the entry is a step in whose scope the observer is false somewhere
pub record IsFailingStep (s : System) (l : Location) (e : Entry) : Type 0 where
  pub step : IsStepKind e.kind
  pub valuation : Valuation
  pub scope : IsInScope s l e valuation
  pub fails : s.observer valuation ≡ false

-- the entry is dead and lacks its refutation, and in its scope, which is not empty, the observer is false
pub record IsUnrefuted (s : System) (c : Certificate) (l : Location) (e : Entry) : Type 0 where
  pub dead : IsDeadKind e.kind
  pub valuation : Valuation
  pub scope : IsInScope s l e valuation
  pub lacks : ¬ AreImplied s c l e
  pub fails : IsNeverObserved s l e

-- A partition whose left locations, and they alone, use one of two exceptions: a step at which the observer may be
-- false, or a dead entry without refutation where the observer is always false.
pub record IsLeftPartition (s : System) (c : Certificate) (left : List ℕ) : Type 0 where
  pub partition : IsPartition s c
  pub some : 0 < length left
  pub there : All (λ k. k < length c.locations) left
  pub rising : (i j k n : ℕ) → i < j → slice_get left i ≡ Some k → slice_get left j ≡ Some n → k < n
  pub disjoint : (k n : ℕ) (l m : Location) (v : Valuation) → slice_get c.locations k ≡ Some l → slice_get c.locations n ≡ Some m
      → IsIn l.control v → IsIn m.control v → k ≡ n
  pub nonempty : (k : ℕ) (l : Location) → slice_get c.locations k ≡ Some l → (v : Valuation) × IsIn l.control v
  pub observed : (k j : ℕ) (l : Location) (e : Entry) → IsEntry c k j l e → IsStepKind e.kind → IsObserved s l e ⊎ Contains left k
  pub dead : (k j : ℕ) (l : Location) (e : Entry) → IsEntry c k j l e → IsDeadKind e.kind → AreImplied s c l e ⊎ (Contains left k × IsNeverObserved s l e)
  pub used : (k : ℕ) → Contains left k → (j : ℕ) × (l : Location) × (e : Entry) × IsEntry c k j l e × (IsFailingStep s l e ⊎ IsUnrefuted s c l e)

-- The location holds one control state.
pub record IsSingle (s : System) (l : Location) : Type 0 where
  pub valuation : Valuation
  pub control : IsIn l.control valuation
  pub same : (v : Valuation) → IsIn l.control v → HasSameState s v valuation

-- there are as many locations as there may be, or each left location holds one control state
abbrev pub IsWhy : System → ℕ → Certificate → List ℕ → Why → Type 0
IsWhy s limit c left (Locations n) = (length c.locations ≡ n) × (n ≡ limit)
IsWhy s limit c left Stuck = (k : ℕ) (l : Location) → Contains left k → slice_get c.locations k ≡ Some l → IsSingle s l

-- The report holds a left partition and why nothing more was split, where there may be `limit` locations.
pub record IsLeftReport (s : System) (limit : ℕ) (report : LeftReport) : Type 0 where
  pub partition : IsLeftPartition s report.partition report.left
  pub why : IsWhy s limit report.partition report.left report.why
