-- Rounds over all valuations that a claim takes, each of which loosens the claim.
use Rattle.std.specs.Prelude.{◌≡◌, ◌↔◌, ◌⊎◌, ℕ, ◌+◌, ◌<◌, ◌≤◌, ◌^◌, ℤ, List, length, All, Bool, true, false, ◌||◌, IsTrue, Some}
use Rattle.std.specs.{Int.RustNames.unsigned_abs}
use Rattle.rv_diagram.specs.{Nodes.Valuation, Nodes.Diagrams, Nodes.IsRef, Nodes.value_of, declared.frozen.Frozen.Frozen}
use Rattle.rv_rows.specs.{declared.linear.Row.Row, Forms.IsSubstituted, Rows.row_at, Multipliers.ShowsAtOnce, Multipliers.AreShutAtOnce}
use Rattle.rv_seek.specs.Least.{bounded}
use Rattle.rv_proofs.specs.RowClaims.{RowClaim, IsRowTaken, IsRowClosed, IsLeastRowClosed, premises_at}
use Rattle.rv_proofs.specs.{Systems.System, Systems.HasSameState, Systems.updates_of, Systems.rows_of, Scopes.IsIn, Ranges.IsControlSet}
use Rattle.rv_symbolic.specs.{declared.relation.Relation.Relation, Represented.IsRelationOf}
use Rattle.rv_cases.specs.{declared.asking.Questions.Questions, Questions.AreQuestions}
use Rattle.rv_walk.specs.{Ends.has, Walks.missing}
use Rattle.rv_claims.specs.Order.{IsBelowClosed}
use Rattle.rv_pairs.specs.{Labels.active, Labels.AreLabels, Telling.Tells}
use Rattle.rv_rise.specs.{declared.frame.Frame.Frame, declared.risen.Risen.Risen, declared.steps.Steps.Steps, declared.steps.Part.Part}
use Rattle.rv_rise.specs.{declared.asking.Asked.Asked}
use Rattle.rv_rise.specs.{Limits.limit_at, Limits.AreAmong, Limits.AreRisen, Limits.HasChanged, Limits.room, Sides.AreSides, Sides.rows_with}

-- The relation and the questions are those of the system in the store.
pub record IsGiven (s : System) (d : Diagrams) (r : Relation) (q : Questions) : Type 0 where
  pub relation : IsRelationOf s d r
  pub questions : AreQuestions s d q

-- The frame is that of a system: all left sides of candidates, and thresholds of a magnitude of at most 2^41.
pub record IsFrameOf (s : System) (f : Frame) : Type 0 where
  pub sides : AreSides s f.sides
  pub small : All (λ t. unsigned_abs t ≤ 2 ^ 41) f.thresholds

-- What is given throughout a search: a system, its relation and its questions in a store, and its frame.
pub record IsGivenIn (s : System) (d : Diagrams) (r : Relation) (q : Questions) (f : Frame) : Type 0 where
  pub relation : IsRelationOf s d r
  pub questions : AreQuestions s d q
  pub frame : IsFrameOf s f

-- the row claim that a set of control states and limits are
abbrev pub claim_in : Frame → Risen → RowClaim
claim_in f c = record { reached = has c.reached; rows = rows_with f.sides c.limits }

-- The claim's set holds the initial control states, the main tick is true at all others, and its limits are thresholds.
pub record IsKeptRisen (s : System) (f : Frame) (c : Risen) : Type 0 where
  pub control : IsControlSet s c.reached
  pub initial : (v : Valuation) → IsTrue (s.initial v) → IsIn c.reached v
  pub ticked : (v : Valuation) → IsIn c.reached v → IsTrue (s.initial v) ⊎ (v 0 ≡ true)
  pub states : (v : Valuation) → IsIn c.reached v → 0 < s.states
  pub size : length c.limits ≡ length f.sides
  pub among : AreAmong f.thresholds c.limits

-- how far a claim may still grow
unfoldable pub left_of : ℕ → Risen → Valuation → ℕ
left_of states c v = missing states (has c.reached) v + room c.limits

-- At each valuation that the claim takes its premises show, after the updates, the left side with this bound at once.
abbrev pub HoldsIn : System → RowClaim → List ℤ → ℤ → Type 0
HoldsIn s c numbers z = (v : Valuation) → IsRowTaken s c v
    → (new : Row) × IsSubstituted (bounded numbers z) (updates_of s v) new × ShowsAtOnce (premises_at s c v) new

-- The set holds next control states of valuations that the claim takes, each of which leads into it or into the claim's own set.
pub record AreNextOf (s : System) (c : RowClaim) (set : Frozen) : Type 0 where
  pub control : IsControlSet s set
  pub made : (v : Valuation) → IsIn set v → (w : Valuation) × IsRowTaken s c w × HasSameState s (s.next w) v
  pub there : (w : Valuation) → IsRowTaken s c w → (IsIn set (s.next w)) ⊎ IsTrue (c.reached (s.next w))

-- Initial valuations that the claim takes lead into it, and its limits hold of them.
pub record IsFirstHeld (s : System) (f : Frame) (c : Risen) : Type 0 where
  pub next : (v : Valuation) → IsTrue (s.initial v) → IsRowTaken s (claim_in f c) v → IsIn c.reached (s.next v)
  pub rows : (k : ℕ) (b : ℤ) → limit_at c.limits k ≡ Some b → (v : Valuation) → IsTrue (s.initial v) → IsRowTaken s (claim_in f c) v
      → (new : Row) × IsSubstituted (bounded (row_at f.sides k).coefficients b) (updates_of s v) new × ShowsAtOnce (premises_at s (claim_in f c) v) new

-- What is asked once for all rounds: where a valuation is allowed and its tests are not shut at once by themselves, and the rows of the tests that tell
-- something.
pub record AreAsked (s : System) (d : Diagrams) (a : Asked) : Type 0 where
  pub found : IsRef d.nodes a.allowed
  pub exact : (v : Valuation) → (value_of d.nodes a.allowed v ≡ true) ↔ (IsTrue (s.allowed v) × ¬ AreShutAtOnce (rows_of s v))
  pub labels : AreLabels d.nodes a.labels
  pub told : (v : Valuation) → Tells (rows_of s v) (active d.nodes a.labels v)

-- The part is of valuations at which the first reference is true: of all of them, or of those with the main tick alone. There the other reference is true.
pub record IsPartOf (old new : Diagrams) (taken : ℕ) (first : Bool) (p : Part) : Type 0 where
  pub here : IsRef new.nodes p.here
  pub sure : IsRef new.nodes p.sure
  pub within : (v : Valuation) → value_of new.nodes p.here v ≡ true → value_of new.nodes p.sure v ≡ true
  pub among : (v : Valuation) → value_of new.nodes p.here v ≡ true → value_of old.nodes taken v ≡ true
  pub ticked : 0 < old.variables → (v : Valuation) → value_of new.nodes p.here v ≡ true → (first ≡ true) ⊎ (v 0 ≡ true)
  pub all : 0 < old.variables → (v : Valuation) → value_of old.nodes taken v ≡ true → (first ≡ true) ⊎ (v 0 ≡ true) → value_of new.nodes p.here v ≡ true

-- What follows from a claim: the next control states, and its limits, risen.
pub record AreSteps (s : System) (f : Frame) (c : Risen) (x : Steps) : Type 0 where
  pub next : AreNextOf s (claim_in f c) x.next
  pub risen : AreRisen f.thresholds (HoldsIn s (claim_in f c)) f.sides (length c.limits) c.limits x.risen.limits
  pub changed : HasChanged x.risen.changed c.limits x.risen.limits

-- A set has been taken into the claim. It has grown where something was new, and is as before where nothing was.
pub record HasTaken (s : System) (set : Frozen) (fresh : Bool) (old new : Risen) : Type 0 where
  pub control : IsControlSet s new.reached
  pub exact : (v : Valuation) → has new.reached v ≡ (has set v || has old.reached v)
  pub limits : new.limits ≡ old.limits
  pub still : fresh ≡ false → new ≡ old
  pub less : fresh ≡ true → (v : Valuation) → missing s.states (has new.reached) v < missing s.states (has old.reached) v

-- The claim has grown by what all valuations do that it takes: it is still below each closed claim, and there is less left. Where nothing has changed it
-- is closed.
pub record HasGrown (s : System) (f : Frame) (changed : Bool) (old new : Risen) : Type 0 where
  pub kept : IsKeptRisen s f new
  pub below : IsBelowClosed s f.thresholds (claim_in f old) → IsBelowClosed s f.thresholds (claim_in f new)
  pub still : changed ≡ false → new ≡ old
  pub closed : changed ≡ false → IsRowClosed s (claim_in f new)
  pub first : IsFirstHeld s f new
  pub less : changed ≡ true → (v : Valuation) → left_of s.states new v < left_of s.states old v

-- The claim is the least closed one.
pub record IsLeastRisen (s : System) (f : Frame) (c : Risen) : Type 0 where
  pub kept : IsKeptRisen s f c
  pub least : IsLeastRowClosed s f.thresholds (claim_in f c)
