-- What a pass is given, what a claim holds of valuations, and how it grows.
use Rattle.std.specs.Prelude.{◌≡◌, ◌⊎◌, ℕ, ◌+◌, ◌<◌, ◌≤◌, ℤ, ◌≤ℤ◌, List, [], length, Option, Bool, true, false, not, ◌&&◌, ◌||◌, Some, IsTrue, slice_get}
use Rattle.std.specs.List.{Contains}
use Rattle.rv_diagram.specs.{Nodes.Valuation, Nodes.Diagrams, declared.frozen.Frozen.Frozen}
use Rattle.rv_rows.specs.{declared.linear.Row.Row, Forms.value}
use Rattle.rv_proofs.specs.Boxes.{BoxClaim, IsInBox, IsTaken}
use Rattle.rv_proofs.specs.{Systems.System, Scopes.IsIn, Ranges.IsControlSet, Ranges.AreKept, Reached.IsLeastClosed, Cases.IsCaseOf, Cases.AreCases}
use Rattle.rv_proofs.specs.{Cases.IsInitialSet, declared.certificate.Location.Location, declared.report.Case.Case}
use Rattle.rv_symbolic.specs.{declared.relation.Relation.Relation, Represented.IsRelationOf}
use Rattle.rv_cases.specs.{declared.asking.Questions.Questions, Questions.AreQuestions}
use Rattle.rv_walk.specs.{Ends.has, Walks.missing}
use Rattle.rv_boxes.specs.Limits.{AreAmong, HaveNotFallen, limit_at, room}
use Rattle.rv_boxes.specs.{declared.frame.Frame.Frame, declared.claim.Claim.Claim, declared.claim.Others.Others, Bounding.AreBothRows, Built.IsClaimedAt}
use Rattle.rv_boxes.specs.{Built.AreBounds, Orders.IsBelowClosed, Opening.IsFrameOf, Claiming.claim_of}

-- What is given throughout a pass: a system, its relation and its questions in a store, its columns and tests, and thresholds.
pub record IsGiven (s : System) (d : Diagrams) (r : Relation) (q : Questions) (f : Frame) : Type 0 where
  pub relation : IsRelationOf s d r
  pub questions : AreQuestions s d q
  pub frame : IsFrameOf s f

-- the location that has these control states and rows
abbrev pub place : Frozen → List Row → Location
place control rows = record {
  control = control;
  entry = rows;
  first = [];
  around = [];
  state = rows;
  by_entry = [];
  by_first = [];
  entries = [];
}

-- The control states are in the claim, and the rows are those of its bounds, where the bounds count.
pub record IsSetting (s : System) (base : BoxClaim) (from : Frozen) (given : List Row) : Type 0 where
  pub control : IsControlSet s from
  pub claimed : IsClaimedAt s base (place from given)
  pub ticked : (v : Valuation) → IsIn from v → (given ≡ []) ⊎ (v 0 ≡ true)
  pub states : (v : Valuation) → IsIn from v → 0 < s.states
  pub bounds : AreBounds s base given
  pub kept : AreKept s given
  pub few : length given ≤ 128

-- Where the valuation is taken in one claim, its next control state is in the other, whose bounds hold after the updates.
pub record IsHeld (s : System) (base c : BoxClaim) (v : Valuation) : Type 0 where
  pub next : IsTaken s base v → IsTrue (c.reached (s.next v))
  pub lower : IsTaken s base v → (k : ℕ) (b : ℤ) → k < s.memories → c.lower k ≡ Some b
      → (point : List ℤ) → IsInBox s base v point → b ≤ℤ value (s.update v k) point
  pub upper : IsTaken s base v → (k : ℕ) (b : ℤ) → k < s.memories → c.upper k ≡ Some b
      → (point : List ℤ) → IsInBox s base v point → value (s.update v k) point ≤ℤ b

-- The claim's set holds the initial control states, the main tick is true at all others, and its bounds are thresholds.
pub record IsKeptClaim (s : System) (f : Frame) (c : Claim) : Type 0 where
  pub control : IsControlSet s c.reached
  pub initial : (v : Valuation) → IsTrue (s.initial v) → IsIn c.reached v
  pub ticked : (v : Valuation) → IsIn c.reached v → IsTrue (s.initial v) ⊎ (v 0 ≡ true)
  pub states : (v : Valuation) → IsIn c.reached v → 0 < s.states
  pub uppers : length c.upper ≡ s.memories
  pub lowers : length c.lower ≡ s.memories
  pub upper_among : AreAmong f.thresholds c.upper
  pub lower_among : AreAmong f.opposites c.lower

-- how far a claim may still grow
unfoldable pub left_of : ℕ → Claim → Valuation → ℕ
left_of states c v = missing states (has c.reached) v + (room c.upper + room c.lower)

-- A claim is above another one: it has its control states, and each bound that is left is no tighter.
pub record IsAbove (old new : Claim) : Type 0 where
  pub reached : (v : Valuation) → IsIn old.reached v → IsIn new.reached v
  pub upper : HaveNotFallen old.upper new.upper
  pub lower : HaveNotFallen old.lower new.lower

-- A claim has grown, by what valuations do that are taken in the base claim. It holds them afterwards.
pub record HasGrown (s : System) (f : Frame) (base : BoxClaim) (inside : Valuation → Type 0) (changed : Bool) (old new : Claim) : Type 0 where
  pub kept : IsKeptClaim s f new
  pub above : IsAbove old new
  pub below : IsBelowClosed s f.thresholds base → IsBelowClosed s f.thresholds (claim_of old) → IsBelowClosed s f.thresholds (claim_of new)
  pub still : changed ≡ false → new ≡ old
  pub held : (v : Valuation) → inside v → IsHeld s base (claim_of new) v
  pub less : changed ≡ true → (v : Valuation) → left_of s.states new v < left_of s.states old v

-- A case of the system, within a set of control states.
pub record IsCaseIn (s : System) (from : Frozen) (c : Case) : Type 0 where
  pub case : IsCaseOf s c
  pub within : (v : Valuation) → IsIn c.condition v → IsIn from v

-- The valuation is in one of the first n cases.
abbrev pub IsInCases : List Case → ℕ → Valuation → Type 0
IsInCases cases n v = (j : ℕ) × (c : Case) × (j < n) × (slice_get cases j ≡ Some c) × IsIn c.condition v

-- The initial control states and their cases.
pub record IsStart (s : System) (first : Frozen) (from_first : List Case) : Type 0 where
  pub initial : IsInitialSet s first
  pub cases : AreCases s first from_first

-- A set has been taken into the claim. It has grown where something was new, and is as before where nothing was.
pub record HasTaken (s : System) (set : Frozen) (fresh : Bool) (old new : Claim) : Type 0 where
  pub control : IsControlSet s new.reached
  pub exact : (v : Valuation) → has new.reached v ≡ (has set v || has old.reached v)
  pub upper : new.upper ≡ old.upper
  pub lower : new.lower ≡ old.lower
  pub still : fresh ≡ false → new ≡ old
  pub less : fresh ≡ true → (v : Valuation) → missing s.states (has new.reached) v < missing s.states (has old.reached) v

-- The control states of a claim that are not initial, and the rows of the claim's bounds.
pub record IsRest (s : System) (first : Frozen) (c : Claim) (rest : Frozen) (given : List Row) : Type 0 where
  pub control : IsControlSet s rest
  pub exact : (v : Valuation) → has rest v ≡ (has c.reached v && not (has first v))
  pub rows : AreBothRows c.upper c.lower (length c.upper) given

-- These, and the cases of these control states.
pub record AreOthers (s : System) (first : Frozen) (c : Claim) (o : Others) : Type 0 where
  pub rest : IsRest s first c o.control o.given
  pub cases : AreCases s o.control o.cases

-- A limit for each memory: the least threshold, or none where there are none.
pub record AreFirst (thresholds : List ℤ) (memories : ℕ) (limits : List (Option ℤ)) : Type 0 where
  pub size : length limits ≡ memories
  pub among : AreAmong thresholds limits
  pub least : (k : ℕ) (t : ℤ) → k < memories → Contains thresholds t → (b : ℤ) × (limit_at limits k ≡ Some b) × (b ≤ℤ t)

-- The claim is the least closed one.
pub record IsLeastClaim (s : System) (f : Frame) (c : Claim) : Type 0 where
  pub kept : IsKeptClaim s f c
  pub least : IsLeastClosed s f.thresholds (claim_of c)
