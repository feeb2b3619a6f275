-- What passes and what fails at each level of the checker, and in which order.
use Rattle.std.specs.Prelude.{◌≡◌, ℕ, ◌+◌, ◌<◌, ◌^◌, pos, Bool, List, ◌++◌, Some, Option, MatchOption, All, length, slice_get}
use Rattle.rv_diagram.specs.Nodes.{Diagrams}
use Rattle.rv_rows.specs.{declared.linear.Row.Row, declared.linear.Form.Form, Rows.RowWithin, Rows.row_at, Forms.CanSubstitute, Forms.IsSubstituted}
use Rattle.rv_rows.specs.{declared.farkas.Multipliers.Multipliers}
use Rattle.rv_proofs.specs.Scopes.{IsSettled, IsSettledTest, IsSettledUpdate, Wanted, Implication, implications}
use Rattle.rv_proofs.specs.Accepted.{IsIncluded, IsCovered, IsObserved, Leads, AreImplied, IsStepKind}
use Rattle.rv_proofs.specs.Verdicts.{Fails, place, IsBefore, IsNotIncluded}
use Rattle.rv_proofs.specs.{Systems.System, Systems.IsUpdate, Counts.HasFree, Ranges.IsInRange, Ranges.AreKept, Ranges.IsRecord, Implied.form_at}
use Rattle.rv_proofs.specs.{Implied.IsImplied, Implied.IsShownWith, declared.certificate.Certificate.Certificate, declared.certificate.Location.Location}
use Rattle.rv_proofs.specs.{declared.certificate.Entry.Entry, declared.certificate.EntryKind.EntryKind, declared.certificate.EntryKind.TheVariants.Dead}
use Rattle.rv_proofs.specs.{declared.certificate.EntryKind.TheVariants.Go, declared.certificate.EntryKind.TheVariants.Loop, declared.verdict.Reason.Reason}
use Rattle.rv_symbolic.specs.declared.relation.Parts.{Parts}
use Rattle.rv_cases.specs.{declared.asking.Questions.Questions, Questions.AreQuestions}
use Rattle.rv_accept.specs.{Held.IsHeld, Needs.IsNamed, Needs.IsNeeded, Needs.AreFlags}

-- What a checker is given: references that mean what the system is, the questions of its tests, updates and observer, and a certificate
-- with the counts and ranges of a document, in which a location without a loop has empty `first` and `around`.
pub record IsGiven (s : System) (d : Diagrams) (p : Parts) (q : Questions) (c : Certificate) : Type 0 where
  pub held : IsHeld s d p
  pub questions : AreQuestions s d q
  pub range : IsInRange s c
  pub free : HasFree c

-- nothing fails at a place before this one
abbrev pub NoneBefore : System → Certificate → List ℕ → Type 0
NoneBefore s c p = (q : Reason) → Fails s c q → ¬ IsBefore (place q) p

-- An entry passes each of its tests.
pub record Passes (s : System) (c : Certificate) (l : Location) (e : Entry) : Type 0 where
  pub settled : IsSettled s c l e
  pub observed : IsStepKind e.kind → IsObserved s l e
  pub leads : Leads s c l e e.kind
  pub implied : AreImplied s c l e

-- A location passes each of its tests.
pub record AllPass (s : System) (c : Certificate) (l : Location) : Type 0 where
  pub included : IsIncluded l
  pub covered : IsCovered s l
  pub entries : (j : ℕ) (e : Entry) → slice_get l.entries j ≡ Some e → Passes s c l e

-- There is a row for each test and a form for each memory, within the limits.
pub record AreLimited (s : System) (rows : List Row) (forms : List Form) : Type 0 where
  pub many_rows : length rows ≡ s.tests
  pub many_forms : length forms ≡ s.memories
  pub small : All (RowWithin (2 ^ 60)) rows
  pub updates : All (IsUpdate s) forms

-- Where a multiplier of the entry names a test, or a row needs an update, it is settled, and the row or the form is its own.
pub record AreFacts (s : System) (c : Certificate) (l : Location) (e : Entry) (rows : List Row) (forms : List Form) : Type 0 where
  pub limits : AreLimited s rows forms
  pub tests : (t : ℕ) → IsNamed (implications c l e.kind) t → IsSettledTest s l e t (row_at rows t)
  pub needed : (k : ℕ) → IsNeeded (implications c l e.kind) k → IsSettledUpdate s l e k (form_at forms k)

-- The row with this number is not proved, and each before it is.
pub record IsFirstNotIncluded (l : Location) (n : ℕ) : Type 0 where
  pub fails : IsNotIncluded l n
  pub first : (m : ℕ) → m < n → ¬ IsNotIncluded l m

-- The implication with this number does not hold, and each before it does.
pub record IsFirstUnimplied (s : System) (c : Certificate) (l : Location) (e : Entry) (n : ℕ) : Type 0 where
  pub implication : Implication
  pub at : slice_get (implications c l e.kind) n ≡ Some implication
  pub fails : ¬ IsImplied s l e implication
  pub first : (m : ℕ) (i : Implication) → m < n → slice_get (implications c l e.kind) m ≡ Some i → IsImplied s l e i

-- The multipliers of the entry name these tests, and its rows need these updates.
pub record IsNeededBy (s : System) (c : Certificate) (l : Location) (e : Entry) (named moved : List Bool) : Type 0 where
  pub tests : AreFlags s.tests (IsNamed (implications c l e.kind)) named
  pub memories : AreFlags s.memories (IsNeeded (implications c l e.kind)) moved

-- One list of multipliers, one for each wanted row, and the rows, all within the limits.
pub record AreAsked (s : System) (given wanted : List Row) (by : List Multipliers) : Type 0 where
  pub premises : All (RowWithin (2 ^ 60)) given
  pub kept : AreKept s wanted
  pub counts : length by ≡ length wanted
  pub records : All (IsRecord (length given + s.tests)) by

-- All lists of multipliers of an entry are within the limits.
abbrev pub AreKindAsked : System → Certificate → Location → EntryKind → Type 0
AreKindAsked s c l (Dead by) = All (RowWithin (2 ^ 60)) l.state × IsRecord (length l.state + s.tests) by × (by.divisor ≡ pos 1)
AreKindAsked s c l (Go target reach) = (into : Location) × (slice_get c.locations target ≡ Some into) × AreAsked s l.state into.entry reach
AreKindAsked s c l (Loop first before_all around state) = AreAsked s l.entry l.first first × AreAsked s l.first l.around before_all
    × AreAsked s (l.around ++ l.state) l.around around × AreAsked s (l.around ++ l.state) l.state state

-- The row can be taken before the updates, within the limits of a wanted row.
pub record HasRoom (updates : List Form) (wanted : Row) : Type 0 where
  pub room : CanSubstitute wanted updates
  pub small : (new : Row) → IsSubstituted wanted updates new → RowWithin (2 ^ 78) new

-- The first n rows are proved, before or after the updates.
abbrev pub AreShown : (Row → Wanted) → List Row → List Form → List Row → List Multipliers → ℕ → Type 0
AreShown want premises updates wanted by n = (k : ℕ) (r : Row) (m : Multipliers) → k < n → slice_get wanted k ≡ Some r → slice_get by k ≡ Some m
    → IsShownWith premises updates (want r) m

-- This row is the first that is not.
pub record IsFirstUnshown (want : Row → Wanted) (premises : List Row) (updates : List Form) (wanted : List Row) (by : List Multipliers) (n : ℕ) : Type 0 where
  pub row : Row
  pub multipliers : Multipliers
  pub at : slice_get wanted n ≡ Some row
  pub at_by : slice_get by n ≡ Some multipliers
  pub fails : ¬ IsShownWith premises updates (want row) multipliers
  pub first : AreShown want premises updates wanted by n

-- The first row that is not proved, or none.
abbrev pub AreTried : (Row → Wanted) → List Row → List Form → List Row → List Multipliers → Option ℕ → Type 0
AreTried want premises updates wanted by found = MatchOption found (AreShown want premises updates wanted by (length wanted))
    (IsFirstUnshown want premises updates wanted by)

-- The implication is proved from the rows of its lists and one row for each test, with these forms of the memories.
abbrev pub HoldsWith : List Row → List Form → Implication → Type 0
HoldsWith rows forms i = IsShownWith (i.given ++ rows) forms i.wanted i.by

-- This implication is the first of the list that is not.
pub record FailsFirst (rows : List Row) (forms : List Form) (list : List Implication) (n : ℕ) : Type 0 where
  pub implication : Implication
  pub at : slice_get list n ≡ Some implication
  pub fails : ¬ HoldsWith rows forms implication
  pub first : (m : ℕ) (i : Implication) → m < n → slice_get list m ≡ Some i → HoldsWith rows forms i

-- The first implication of the list that is not proved, or none.
abbrev pub AreJudged : List Row → List Form → List Implication → Option ℕ → Type 0
AreJudged rows forms list found = MatchOption found ((m : ℕ) (i : Implication) → slice_get list m ≡ Some i
    → HoldsWith rows forms i) (FailsFirst rows forms list)
