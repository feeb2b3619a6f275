-- Runs of a system, and the invariant that a certificate gives them.
use Rattle.std.specs.Prelude.{◌≡◌, ◌⊎◌, ℕ, ◌+◌, ◌<◌, ℤ, List, Some, IsTrue, slice_get, All}
use Rattle.rv_diagram.specs.Nodes.{Valuation}
use Rattle.rv_rows.specs.{declared.linear.Row.Row, Rows.Holds, Forms.number, Forms.value}
use Rattle.rv_proofs.specs.{Systems.System, Systems.Agrees, Systems.HasSameState, Counts.HasLoop, Scopes.IsIn, Scopes.IsInScope}
use Rattle.rv_proofs.specs.{declared.certificate.Certificate.Certificate, declared.certificate.Location.Location, declared.certificate.Entry.Entry}

-- Each row of the list holds at the point.
abbrev pub AllHold : List Row → List ℤ → Type 0
AllHold rows point = All (λ r. Holds r point) rows

-- A run of n instants, each a valuation and a point: the first control state is initial, each point agrees with its
-- valuation, and each instant leads to the next control state and the updated memories. The inputs are free.
pub record IsAbstractRun (s : System) (n : ℕ) (vs : ℕ → Valuation) (points : ℕ → List ℤ) : Type 0 where
  pub start : IsTrue (s.initial (vs 0))
  pub agrees : (t : ℕ) → t < n → Agrees s (vs t) (points t)
  pub control : (t : ℕ) → t + 1 < n → HasSameState s (s.next (vs t)) (vs (t + 1))
  pub memories : (t k : ℕ) → t + 1 < n → k < s.memories → number k (points (t + 1)) ≡ value (s.update (vs t) k) (points t)

-- A step by an entry: a valuation of its scope, a point that agrees with it, and a point with the updated memories.
pub record IsStepBy (s : System) (l : Location) (e : Entry) (v : Valuation) (point next : List ℤ) : Type 0 where
  pub scope : IsInScope s l e v
  pub agrees : Agrees s v point
  pub memories : (k : ℕ) → k < s.memories → number k next ≡ value (s.update v k) point

-- The assertions hold at the instants before t.
abbrev pub AreAllowedBefore : System → ℕ → (ℕ → Valuation) → Type 0
AreAllowedBefore s t vs = (u : ℕ) → u < t → IsTrue (s.allowed (vs u))

-- Where the location has no loop the point is in `entry`. Where it has one, the point is in `entry`, in `first`, or in
-- both `around` and `state`.
abbrev pub IsWithin : Location → List ℤ → Type 0
IsWithin l point = AllHold l.entry point ⊎ (HasLoop l × (AllHold l.first point ⊎ (AllHold l.around point × AllHold l.state point)))

-- Some location holds the control state and has the point within.
abbrev pub IsInvariant : Certificate → Valuation → List ℤ → Type 0
IsInvariant c v point = (k : ℕ) × (l : Location) × (slice_get c.locations k ≡ Some l) × IsIn l.control v × IsWithin l point

-- Along every run the invariant holds at each instant before which the assertions have held.
abbrev pub KeepsInvariant : System → Certificate → Type 0
KeepsInvariant s c = (n t : ℕ) (vs : ℕ → Valuation) (points : ℕ → List ℤ) → IsAbstractRun s n vs points → t < n
    → AreAllowedBefore s t vs → IsInvariant c (vs t) (points t)

-- Along every run the observer is true at each instant up to which the assertions have held.
abbrev pub IsSafeSystem : System → Type 0
IsSafeSystem s = (n t : ℕ) (vs : ℕ → Valuation) (points : ℕ → List ℤ) → IsAbstractRun s n vs points → t < n
    → AreAllowedBefore s (t + 1) vs → IsTrue (s.observer (vs t))
