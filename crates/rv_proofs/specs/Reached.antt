-- The least closed box claim, its control states by the step at which they are first reached, and claims of systems
-- without integers.
use Rattle.std.specs.Prelude.{◌≡◌, ◌↔◌, ℕ, zero, suc, ◌<◌, ◌≤◌, ℤ, ◌≤ℤ◌, List, length, Bool, Some, IsTrue, slice_get, None as Nothing}
use Rattle.rv_diagram.specs.{Nodes.Valuation, declared.frozen.Frozen.Frozen}
use Rattle.rv_proofs.specs.Boxes.{BoxClaim, IsBoxClaim, IsTaken, IsClosed}
use Rattle.rv_proofs.specs.{Systems.System, Systems.HasSameState, Scopes.IsIn, Ranges.IsControlSet}

-- The system has no integers: no memories, no inputs and no comparisons.
pub record HasNoIntegers (s : System) : Type 0 where
  pub memories : s.memories ≡ 0
  pub columns : s.columns ≡ 0
  pub tests : s.tests ≡ 0

-- c claims no less than d: its set is within that of d, and where d has a bound, c has one that is no looser.
pub record IsTighter (s : System) (c d : BoxClaim) : Type 0 where
  pub reached : (v : Valuation) → IsTrue (c.reached v) → IsTrue (d.reached v)
  pub lower : (k : ℕ) (b : ℤ) → k < s.memories → d.lower k ≡ Some b → (a : ℤ) × (c.lower k ≡ Some a) × (b ≤ℤ a)
  pub upper : (k : ℕ) (b : ℤ) → k < s.memories → d.upper k ≡ Some b → (a : ℤ) × (c.upper k ≡ Some a) × (a ≤ℤ b)

-- The least closed claim: it is closed, and claims no less than any closed one.
pub record IsLeastClosed (s : System) (thresholds : List ℤ) (c : BoxClaim) : Type 0 where
  pub claim : IsBoxClaim s thresholds c
  pub closed : IsClosed s c
  pub least : (d : BoxClaim) → IsBoxClaim s thresholds d → IsClosed s d → IsTighter s c d

-- The control state is reached in the claim by this many steps: from an initial one, by allowed open valuations.
abbrev pub Reaches : System → BoxClaim → ℕ → Valuation → Type 0
Reaches s c zero v = IsTrue (s.initial v)
Reaches s c (suc t) v = (w : Valuation) × Reaches s c t w × IsTaken s c w × HasSameState s (s.next w) v

-- It is reached by this many steps, and by no fewer.
pub record IsFirstReached (s : System) (c : BoxClaim) (t : ℕ) (v : Valuation) : Type 0 where
  pub reached : Reaches s c t v
  pub first : (u : ℕ) → u < t → ¬ Reaches s c u v

-- The set holds exactly the control states that are first reached by this many steps.
pub record IsLayer (s : System) (c : BoxClaim) (t : ℕ) (set : Frozen) : Type 0 where
  pub control : IsControlSet s set
  pub exact : (v : Valuation) → IsIn set v ↔ IsFirstReached s c t v

-- The layers of a claim: the first set is the initial one, each later set holds the control states first reached one
-- step later in the claim, and all sets together are the claim's control states.
pub record AreLayers (s : System) (c : BoxClaim) (sets : List Frozen) : Type 0 where
  pub some : 0 < length sets
  pub each : (t : ℕ) (set : Frozen) → slice_get sets t ≡ Some set → IsLayer s c t set
  pub all : (v : Valuation) → IsTrue (c.reached v) ↔ ((t : ℕ) × (set : Frozen) × (slice_get sets t ≡ Some set) × IsIn set v)

-- A step from an allowed open valuation of set t leads to the control state, which is in none of the sets up to that one.
pub record IsReachedNext (s : System) (c : BoxClaim) (sets : List Frozen) (t : ℕ) (v : Valuation) : Type 0 where
  pub last : Frozen
  pub at : slice_get sets t ≡ Some last
  pub step : (w : Valuation) × IsIn last w × IsTaken s c w × HasSameState s (s.next w) v
  pub fresh : (u : ℕ) (set : Frozen) → u ≤ t → slice_get sets u ≡ Some set → ¬ IsIn set v

-- A set of control states without bounds.
abbrev pub unbounded : (Valuation → Bool) → BoxClaim
unbounded reached = record { reached = reached; lower = λ k. Nothing; upper = λ k. Nothing }

-- A set of control states that holds the initial ones, and with the control state of an allowed valuation the next one.
pub record IsControlClosed (s : System) (reached : Valuation → Bool) : Type 0 where
  pub state : (v w : Valuation) → HasSameState s v w → reached v ≡ reached w
  pub initial : (v : Valuation) → IsTrue (s.initial v) → IsTrue (reached v)
  pub next : (v : Valuation) → IsTrue (s.allowed v) → IsTrue (reached v) → IsTrue (reached (s.next v))

-- At each allowed valuation whose control state is in the set, the observer is true.
abbrev pub IsControlGood : System → (Valuation → Bool) → Type 0
IsControlGood s reached = (v : Valuation) → IsTrue (s.allowed v) → IsTrue (reached v) → IsTrue (s.observer v)

-- Some set of control states is closed and good.
abbrev pub HasGoodControl : System → Type 0
HasGoodControl s = (reached : Valuation → Bool) × IsControlClosed s reached × IsControlGood s reached
