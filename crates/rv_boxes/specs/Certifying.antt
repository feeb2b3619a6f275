-- The certificate of a closed claim, entry by entry.
use Rattle.std.specs.Prelude.{◌≡◌, ℕ, ◌<◌, ◌≤◌, ◌^◌, List, [], length, false, All, Some, IsTrue, slice_get}
use Rattle.std.specs.Int.RustNames.{unsigned_abs}
use Rattle.rv_diagram.specs.{Nodes.Valuation, declared.frozen.Frozen.Frozen}
use Rattle.rv_rows.specs.{declared.linear.Row.Row, declared.linear.Form.Form, declared.farkas.Multipliers.Multipliers, Forms.CanSubstitute, Forms.IsSubstituted}
use Rattle.rv_proofs.specs.{Systems.System, Systems.IsSystem, Scopes.IsIn, Ranges.AreKept, Samples.by_one, Boxes.BoxClaim, Boxes.IsTaken, Boxes.IsClosed}
use Rattle.rv_proofs.specs.{declared.certificate.Location.Location, declared.certificate.Entry.Entry, declared.report.Case.Case}
use Rattle.rv_boxes.specs.Built.{AreBounds, IsReached, IsBuiltEntry, IsBuiltLocation}
use Rattle.rv_boxes.specs.Rounds.{IsCaseIn, IsStart, AreOthers, IsLeastClaim}
use Rattle.rv_boxes.specs.{declared.frame.Frame.Frame, Boxed.IsUnbounded, declared.claim.Claim.Claim, declared.claim.Others.Others, Opening.IsFrameOf}

-- The wanted row can be taken before the updates, has small coefficients there, and its left side is bounded over the box.
pub record CanReach (width : ℕ) (premises : List Row) (forms : List Form) (r : Row) : Type 0 where
  pub room : CanSubstitute r forms
  pub narrow : (new : Row) → IsSubstituted r forms new → length new.coefficients ≤ width
  pub small : (new : Row) → IsSubstituted r forms new → All (λ c. unsigned_abs c ≤ 2 ^ 41) new.coefficients
  pub bounded : (new : Row) → IsSubstituted r forms new → ¬ IsUnbounded width premises new.coefficients

-- The multipliers of the first n wanted rows.
pub record AreReached (width : ℕ) (premises : List Row) (forms : List Form) (wanted : List Row) (n : ℕ) (reach : List Multipliers) : Type 0 where
  pub size : length reach ≡ n
  pub each : (k : ℕ) (r : Row) (m : Multipliers) → slice_get wanted k ≡ Some r → slice_get reach k ≡ Some m → IsReached width premises forms r m

-- Each is a case of the system, within a set of control states.
abbrev pub AreCasesIn : System → Frozen → List Case → Type 0
AreCasesIn s from cases = (j : ℕ) (c : Case) → slice_get cases j ≡ Some c → IsCaseIn s from c

-- A closed claim of a system, and rows of its bounds.
pub record IsJudgeable (s : System) (f : Frame) (c : BoxClaim) (wanted : List Row) : Type 0 where
  pub system : IsSystem s
  pub frame : IsFrameOf s f
  pub closed : IsClosed s c
  pub bounds : AreBounds s c wanted
  pub kept : AreKept s wanted

-- At some valuation that is taken the observer is false.
abbrev pub IsBad : System → BoxClaim → Type 0
IsBad s c = (v : Valuation) × IsTaken s c v × (s.observer v ≡ false)

-- The entry is built from the case, in each location with these control states and rows, and the observer is true where a
-- valuation of the case is taken.
pub record IsEntryOf (s : System) (c : BoxClaim) (from : Frozen) (given wanted : List Row) (case : Case) (e : Entry) : Type 0 where
  pub condition : e.condition ≡ case.condition
  pub built : (l : Location) → l.control ≡ from → l.state ≡ given → IsBuiltEntry s l wanted e
  pub good : (v : Valuation) → IsIn case.condition v → IsTaken s c v → IsTrue (s.observer v)

-- There is such an entry for each of the first n cases.
pub record AreEntriesOf (s : System) (c : BoxClaim) (from : Frozen) (given wanted : List Row) (cases : List Case) (n : ℕ) (es : List Entry) : Type 0 where
  pub size : length es ≡ n
  pub each : (j : ℕ) (case : Case) (e : Entry) → slice_get cases j ≡ Some case → slice_get es j ≡ Some e → IsEntryOf s c from given wanted case e

-- A location with these control states, rows and entries: the rows of its state are those of its entry.
pub record IsLocationOf (from : Frozen) (rows : List Row) (es : List Entry) (l : Location) : Type 0 where
  pub control : l.control ≡ from
  pub entry : l.entry ≡ rows
  pub first : l.first ≡ []
  pub around : l.around ≡ []
  pub state : l.state ≡ rows
  pub count : length l.by_entry ≡ length rows
  pub by_entry : (n : ℕ) → n < length rows → slice_get l.by_entry n ≡ Some (by_one n)
  pub by_first : l.by_first ≡ []
  pub entries : l.entries ≡ es

-- A part of a certificate: the location, built from the claim, and good throughout.
pub record IsPart (s : System) (c : BoxClaim) (from : Frozen) (given wanted : List Row) (l : Location) : Type 0 where
  pub control : l.control ≡ from
  pub entry : l.entry ≡ given
  pub built : IsBuiltLocation s c wanted l
  pub good : (v : Valuation) → IsIn from v → IsTaken s c v → IsTrue (s.observer v)

-- The least closed claim, with the initial control states, the others, and the cases of both.
pub record IsCertifiable (s : System) (f : Frame) (c : Claim) (first : Frozen) (from_first : List Case) (o : Others) : Type 0 where
  pub system : IsSystem s
  pub frame : IsFrameOf s f
  pub least : IsLeastClaim s f c
  pub start : IsStart s first from_first
  pub others : AreOthers s first c o
