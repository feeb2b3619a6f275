-- The certificate of a closed row claim, entry by entry.
use Rattle.std.specs.Prelude.{◌≡◌, ℕ, ◌+◌, ◌<◌, ◌^◌, pos, negsuc, true, false, List, [], ◌++◌, length, All, Some, IsTrue, slice_get}
use Rattle.rv_diagram.specs.{Nodes.Valuation, Nodes.Diagrams, declared.frozen.Frozen.Frozen}
use Rattle.rv_rows.specs.{declared.linear.Row.Row, declared.linear.Form.Form, declared.farkas.Multipliers.Multipliers, Rows.RowWithin, Forms.CanSubstitute}
use Rattle.rv_rows.specs.{Forms.IsSubstituted, Multipliers.ShowsAtOnce, Multipliers.AreShutAtOnce}
use Rattle.rv_proofs.specs.RowClaims.{RowClaim, IsRowTaken, IsRowClosed, premises_at}
use Rattle.rv_proofs.specs.{Systems.System, Systems.IsSystem, Systems.rows_of, Scopes.IsIn, Ranges.IsRecord, Ranges.IsControlSet, Ranges.AreKept}
use Rattle.rv_proofs.specs.{Samples.by_one, Cases.IsCaseOf, declared.certificate.Location.Location, declared.certificate.Entry.Entry}
use Rattle.rv_proofs.specs.{declared.certificate.EntryKind.EntryKind, declared.certificate.EntryKind.TheVariants.Dead}
use Rattle.rv_proofs.specs.{declared.certificate.EntryKind.TheVariants.Go, declared.certificate.EntryKind.TheVariants.Loop, declared.report.Case.Case}
use Rattle.rv_symbolic.specs.{declared.relation.Relation.Relation, Represented.IsRelationOf}
use Rattle.rv_cases.specs.{declared.asking.Questions.Questions, Questions.AreQuestions}
use Rattle.rv_claims.specs.{declared.claim.Claim.Claim, Claiming.claim_of, Certify.IsClaimKind}
use Rattle.rv_claimed.specs.Placing.{IsPairOf}

-- What is given: a system, its relation and its questions in a store.
pub record IsGiven (s : System) (d : Diagrams) (r : Relation) (q : Questions) : Type 0 where
  pub relation : IsRelationOf s d r
  pub questions : AreQuestions s d q

-- At some valuation that the claim takes the observer is false.
abbrev pub IsBad : System → RowClaim → Type 0
IsBad s c = (v : Valuation) × IsRowTaken s c v × (s.observer v ≡ false)

-- The wanted row can be taken before the updates, has small numbers there, and the premises show it at once.
pub record CanShow (premises : List Row) (forms : List Form) (r : Row) : Type 0 where
  pub room : CanSubstitute r forms
  pub small : (new : Row) → IsSubstituted r forms new → RowWithin (2 ^ 78) new
  pub shown : (new : Row) → IsSubstituted r forms new → ShowsAtOnce premises new

-- The premises of a case: given rows, and then those of the tests that are present.
abbrev pub premises_in : List Row → Case → List Row
premises_in given c = given ++ c.rows

-- The multipliers are those of a pair of premises that shows the row after the updates.
abbrev pub IsReached : ℕ → List Row → Case → Row → Multipliers → Type 0
IsReached many given c r m = (new : Row) × IsSubstituted r c.updates new × IsPairOf (length given) many c.tests (premises_in given c) new m

-- They are those of a pair that shows `0 <= -1`.
abbrev pub IsShut : ℕ → List Row → Case → Multipliers → Type 0
IsShut many given c m = IsPairOf (length given) many c.tests (premises_in given c) (record { coefficients = []; bound = negsuc 0 }) m

-- The multipliers of the first n wanted rows.
pub record AreReached (many : ℕ) (given : List Row) (c : Case) (wanted : List Row) (n : ℕ) (reach : List Multipliers) : Type 0 where
  pub size : length reach ≡ n
  pub each : (k : ℕ) (r : Row) (m : Multipliers) → slice_get wanted k ≡ Some r → slice_get reach k ≡ Some m → IsReached many given c r m

-- A case is dead where its premises are shut at once, and else a step into location 1 that shows each wanted row, at which the observer is true.
abbrev pub IsMadeKind : ℕ → List Row → List Row → Case → EntryKind → Type 0
IsMadeKind many given wanted c (Dead m) = IsShut many given c m
IsMadeKind many given wanted c (Go target reach) =
    (target ≡ 1) × (c.observer ≡ true) × (¬ AreShutAtOnce (premises_in given c)) × AreReached many given c wanted (length wanted) reach
IsMadeKind many given wanted c (Loop first before around state) = ⊥

-- A closed claim of a system with so many tests, whose rows can be kept and have, with the tests, numbers that a document can write.
pub record IsJudgeable (s : System) (many : ℕ) (c : Claim) : Type 0 where
  pub system : IsSystem s
  pub tests : many ≡ s.tests
  pub closed : IsRowClosed s (claim_of c)
  pub kept : AreKept s c.rows
  pub few : length c.rows + s.tests < 2 ^ 32

-- The control states are in the claim, whose premises at each are the rows of the tests and the given ones.
pub record IsSetting (s : System) (c : RowClaim) (from : Frozen) (given : List Row) : Type 0 where
  pub control : IsControlSet s from
  pub reached : (v : Valuation) → IsIn from v → IsTrue (c.reached v)
  pub premises : (v : Valuation) → IsIn from v → premises_at s c v ≡ rows_of s v ++ given
  pub kept : AreKept s given
  pub few : length given + s.tests < 2 ^ 32

-- A case of the system, within a set of control states.
pub record IsCaseIn (s : System) (from : Frozen) (c : Case) : Type 0 where
  pub case : IsCaseOf s c
  pub within : (v : Valuation) → IsIn c.condition v → IsIn from v

-- Each is a case of the system, within a set of control states.
abbrev pub AreCasesIn : System → Frozen → List Case → Type 0
AreCasesIn s from cases = (j : ℕ) (c : Case) → slice_get cases j ≡ Some c → IsCaseIn s from c

-- What happens in an entry has the counts and ranges of a document, with so many premises and so many wanted rows.
abbrev pub IsRangedKind : ℕ → ℕ → EntryKind → Type 0
IsRangedKind premises wanted (Dead m) = IsRecord premises m × (m.divisor ≡ pos 1)
IsRangedKind premises wanted (Go target reach) = (target ≡ 1) × (length reach ≡ wanted) × All (IsRecord premises) reach
IsRangedKind premises wanted (Loop first before around state) = ⊥

-- The entry of a case: throughout it, it is what the claim asks for, and the observer is true wherever the claim takes the valuation.
pub record IsEntryOf (s : System) (c : RowClaim) (given : List Row) (case : Case) (e : Entry) : Type 0 where
  pub condition : e.condition ≡ case.condition
  pub kind : (v : Valuation) → IsIn case.condition v → IsClaimKind s c given v e.kind
  pub ranged : IsRangedKind (length given + s.tests) (length c.rows) e.kind
  pub good : (v : Valuation) → IsIn case.condition v → IsRowTaken s c v → IsTrue (s.observer v)

-- There is such an entry for each case.
pub record AreEntriesOf (s : System) (c : RowClaim) (given : List Row) (cases : List Case) (es : List Entry) : Type 0 where
  pub size : length es ≡ length cases
  pub each : (j : ℕ) (case : Case) (e : Entry) → slice_get cases j ≡ Some case → slice_get es j ≡ Some e → IsEntryOf s c given case e

-- A location with these control states, rows and entries: the rows of its state are those of its entry.
pub record IsLocationOf (from : Frozen) (rows : List Row) (es : List Entry) (l : Location) : Type 0 where
  pub control : l.control ≡ from
  pub entry : l.entry ≡ rows
  pub first : l.first ≡ []
  pub around : l.around ≡ []
  pub state : l.state ≡ rows
  pub count : length l.by_entry ≡ length rows
  pub by_entry : (n : ℕ) → n < length rows → slice_get l.by_entry n ≡ Some (by_one n)
  pub by_first : l.by_first ≡ []
  pub entries : l.entries ≡ es
