-- What an answer says of the file that the words name.
use Rattle.std.specs.Prelude.{◌≡◌, ◌⊎◌, ℕ, List, Option, Some, None, IsSomeAnd, codes}
use Rattle.std.specs.FinMap.{get}
use Rattle.rv_base.specs.{Shelf.Shelf, Shelf.HoldsUnder, declared.value.Trace.Trace}
use Rattle.rv_source.specs.{declared.fault.SourceFault.SourceFault, Sources.AreSame}
use Rattle.rv_proofs.specs.{declared.certificate.Certificate.Certificate, declared.report.LeftReport.LeftReport}
use Rattle.rv_run.specs.Verdicts.{IsDocumentOf, IsInvariantOf, IsLeftOf}
use Rattle.rv_run.specs.declared.report.Report.TheVariants.{Safe, Violated, Unknown, Nodes, Accepted, Rejected, Falsified, AssertionFails, NeverFalse, Outgrown}
use Rattle.rv_run.specs.declared.report.Report.TheVariants.{Made, Toured, Refused, BadFile, TooLong, ReadFault, Usage, Memory}
use Rattle.rv_run.specs.{Words.Wanted, declared.words.Task.Task, Printed.text_of, Programs.OnProgram, declared.report.Report.Report}
use Rattle.rv_make.specs.Made.{made_text}

-- The words are a command, and what is held under its file has P, beside its node, where the files tell what they
-- hold.
abbrev pub OnFile : Option Shelf → Wanted → (List ℕ → List ℕ → Type 0) → Type 0
OnFile held w P = IsSomeAnd w.named (λ named. HoldsUnder held named.0 (λ bytes. P bytes named.1))

-- The words name a document besides with which this is done, and what is held under both files has P, beside the command's node, where
-- the files tell what they hold.
abbrev pub OnDocument : Option Shelf → Wanted → Task → (List ℕ → List ℕ → List ℕ → Type 0) → Type 0
OnDocument held w task P = IsSomeAnd w.named (λ named. IsSomeAnd w.beside (λ other. (other.0 ≡ task)
    × HoldsUnder held named.0 (λ bytes. HoldsUnder held other.1 (λ document. P bytes named.1 document))))

-- The words ask for the proof of a source that is made, and its text has P, beside its main node.
abbrev pub OnMade : Wanted → (List ℕ → List ℕ → Type 0) → Type 0
OnMade w P = IsSomeAnd w.toured (λ n. P (made_text n) (codes "main"))

-- The source that is proved or checked has P, whether it is in a file or made.
abbrev pub OnSource : Option Shelf → Wanted → (List ℕ → List ℕ → Type 0) → Type 0
OnSource held w P = OnFile held w P ⊎ OnMade w P

-- The files tell what they hold, and under this name they hold these bytes.
abbrev pub Tells : Option Shelf → List ℕ → List ℕ → Type 0
Tells None name bytes = ⊥
Tells (Some shelf) name bytes = get shelf name ≡ Some bytes

-- The words are a command, the files tell what they hold under its file, and that has P, beside the command's node.
pub record IsTold (held : Option Shelf) (w : Wanted) (P : List ℕ → List ℕ → Type 0) : Type 0 where
  pub file : List ℕ
  pub node : List ℕ
  pub bytes : List ℕ
  pub named : w.named ≡ Some (file, node)
  pub told : Tells held file bytes
  pub holds : P bytes node

-- The report is this one, unless the file could not be read or there was no memory.
abbrev pub IsUnlessCutOff : Report → Report → Type 0
IsUnlessCutOff expected report = (report ≡ expected) ⊎ ((report ≡ ReadFault) ⊎ (report ≡ Memory))

-- It is a refusal for this fault, or for another cycle where the fault is one, unless the file could not be read or there
-- was no memory.
abbrev pub IsRefusalUnlessCutOff : SourceFault → Report → Type 0
IsRefusalUnlessCutOff fault report = ((found : SourceFault) × (report ≡ Refused found) × AreSame fault found) ⊎ ((report ≡ ReadFault) ⊎ (report ≡ Memory))

-- The report has a certificate.
abbrev pub IsSafeReport : Report → Type 0
IsSafeReport report = (c : Certificate) × (report ≡ Safe c)

-- The report is that the diagrams grew past their limit.
abbrev pub IsNodesReport : Report → Type 0
IsNodesReport report = (n : ℕ) × (report ≡ Nodes n)

-- The report has a certificate, unless the diagrams grew past their limit, the file could not be read or there was no memory.
abbrev pub IsSafeUnlessCutOff : Report → Type 0
IsSafeUnlessCutOff report = IsSafeReport report ⊎ (IsNodesReport report ⊎ ((report ≡ ReadFault) ⊎ (report ≡ Memory)))

-- The report has a trace.
abbrev pub IsViolatedReport : Report → Type 0
IsViolatedReport report = (t : Trace) × (report ≡ Violated t)

-- The report has a trace, unless the same.
abbrev pub IsViolatedUnlessCutOff : Report → Type 0
IsViolatedUnlessCutOff report = IsViolatedReport report ⊎ (IsNodesReport report ⊎ ((report ≡ ReadFault) ⊎ (report ≡ Memory)))

-- The report has a trace, unless the file could not be read or there was no memory.
abbrev pub IsViolatedUnlessUnread : Report → Type 0
IsViolatedUnlessUnread report = IsViolatedReport report ⊎ ((report ≡ ReadFault) ⊎ (report ≡ Memory))

-- The report has a left partition.
abbrev pub IsUnknownReport : Report → Type 0
IsUnknownReport report = (l : LeftReport) × (report ≡ Unknown l)

-- The report is that a source that was made is safe.
abbrev pub IsTouredReport : Report → Type 0
IsTouredReport report = (count : ℕ) × (length : ℕ) × (c : Certificate) × (report ≡ Toured count length c)

-- The report is one on the bytes of a source, and not on the words or the file.
abbrev pub IsOnSource : Report → Type 0
IsOnSource Accepted = ⊥
IsOnSource (Rejected reason) = ⊥
IsOnSource (Falsified at) = ⊥
IsOnSource (AssertionFails at place) = ⊥
IsOnSource NeverFalse = ⊥
IsOnSource (Outgrown at place) = ⊥
IsOnSource (BadFile fault) = ⊥
IsOnSource (TooLong count) = ⊥
IsOnSource ReadFault = ⊥
IsOnSource Usage = ⊥
IsOnSource (Made source) = ⊥
IsOnSource (Toured count length certificate) = ⊥
IsOnSource report = Unit {0}

-- The words are a command that does this with a document, the files tell what they hold under both its files, and that has P, beside the
-- command's node.
pub record IsToldDocument (held : Option Shelf) (w : Wanted) (task : Task) (P : List ℕ → List ℕ → List ℕ → Type 0) : Type 0 where
  pub file : List ℕ
  pub node : List ℕ
  pub other : List ℕ
  pub bytes : List ℕ
  pub document : List ℕ
  pub named : w.named ≡ Some (file, node)
  pub with_other : w.beside ≡ Some (task, other)
  pub told : Tells held file bytes
  pub told_other : Tells held other document
  pub holds : P bytes node document

-- The report is one that `prove` alone gives on an accepted source.
abbrev pub IsVerdict : Report → Type 0
IsVerdict report = IsSafeReport report ⊎ (IsViolatedReport report ⊎ IsUnknownReport report)

-- It is one, unless the diagrams grew past their limit, the file could not be read or there was no memory.
abbrev pub IsJudgedUnlessLimited : Report → Type 0
IsJudgedUnlessLimited report = IsVerdict report ⊎ (IsNodesReport report ⊎ ((report ≡ ReadFault) ⊎ (report ≡ Memory)))

-- The report is this one, unless the diagrams grew past their limit, a file could not be read or there was no memory.
abbrev pub IsUnlessLimited : Report → Report → Type 0
IsUnlessLimited expected report = (report ≡ expected) ⊎ (IsNodesReport report ⊎ ((report ≡ ReadFault) ⊎ (report ≡ Memory)))

-- What is shown of a report on the file that the words name: of Safe, Violated and Unknown the document of its certificate, its trace or
-- what is left over the program there, of any other its text.
abbrev pub IsShown : Option Shelf → Wanted → Report → List ℕ → Type 0
IsShown held w (Safe c) shown = OnFile held w (OnProgram (IsInvariantOf c shown))
IsShown held w (Violated t) shown = OnFile held w (OnProgram (IsDocumentOf t shown))
IsShown held w (Unknown l) shown = OnFile held w (OnProgram (IsLeftOf w.locations l shown))
IsShown held w report shown = shown ≡ text_of report
