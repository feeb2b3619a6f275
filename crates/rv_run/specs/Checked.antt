-- What a check says of the bytes of an invariant file: the certificate that they are and whether it is accepted, or why they are none.
use Rattle.std.specs.Prelude.{◌≡◌, ◌⊎◌, ℕ, List}
use Rattle.rv_tree.specs.{Tree.ProgramTree, Places.Identifier}
use Rattle.rv_flat.specs.{declared.flat.Flat.Flat, FlatOf.IsFlatOf}
use Rattle.rv_control.specs.Control.{control_of}
use Rattle.rv_invfile.specs.{Csv.records_of, Rules.IsDocument, Faults.IsFirstFault, declared.fault.FileFault.FileFault}
use Rattle.rv_invariant.specs.Certificates.{certificate_rule}
use Rattle.rv_proofs.specs.{Accepted.IsAccepted, Verdicts.IsVerdict, declared.certificate.Certificate.Certificate, declared.verdict.Reason.Reason}
use Rattle.rv_proofs.specs.declared.verdict.Verdict.TheVariants as verdict
use Rattle.rv_run.specs.declared.report.Report.TheVariants.{Safe, Violated, Unknown, Nodes, Accepted, Rejected, Falsified, AssertionFails, NeverFalse, Outgrown}
use Rattle.rv_run.specs.declared.report.Report.TheVariants.{Made, Toured, BadFile, Usage, Memory}
use Rattle.rv_run.specs.{declared.words.Task.Task, declared.words.Task.TheVariants.Replay, declared.words.Task.TheVariants.Check, declared.report.Report.Report}
use Rattle.rv_run.specs.{Answers.IsUnlessCutOff, Answers.IsUnlessLimited, Traced.IsTraceReport, Traced.SaysOfTrace}

-- The records of the bytes are the document of a certificate of the program of which, with its flat system, this holds.
abbrev pub OnCertificate : (Flat → Certificate → Type 0) → List ℕ → ProgramTree → Identifier → Type 0
OnCertificate P document program main =
    (f : Flat) × (c : Certificate) × IsFlatOf program main f × IsDocument (certificate_rule f) (records_of document) c × P f c

-- It is accepted for the system of the flat system.
abbrev pub HasAccepted : List ℕ → ProgramTree → Identifier → Type 0
HasAccepted = OnCertificate (λ f c. IsAccepted (control_of f) c)

-- It is not, and this is the first reason, with the least valuation or control state that fails.
abbrev pub HasRejected : Reason → List ℕ → ProgramTree → Identifier → Type 0
HasRejected reason = OnCertificate (λ f c. IsVerdict (control_of f) c (verdict.Rejected reason))

-- The records are the document of no certificate of the program, and this is their first fault.
abbrev pub IsInvariantFault : FileFault → List ℕ → ProgramTree → Identifier → Type 0
IsInvariantFault fault document program main = (f : Flat) × IsFlatOf program main f × IsFirstFault (certificate_rule f) (records_of document) fault

-- What a report on the bytes of an invariant file says of them and of the program; any other report says nothing that could be so.
abbrev pub SaysOfInvariant : Report → List ℕ → ProgramTree → Identifier → Type 0
SaysOfInvariant Accepted = HasAccepted
SaysOfInvariant (Rejected reason) = HasRejected reason
SaysOfInvariant (BadFile fault) = IsInvariantFault fault
SaysOfInvariant report = λ document program main. ⊥

-- The report is one on the bytes of an invariant file.
abbrev pub IsInvariantReport : Report → Type 0
IsInvariantReport Accepted = Unit {0}
IsInvariantReport (Rejected reason) = Unit {0}
IsInvariantReport (BadFile fault) = Unit {0}
IsInvariantReport report = ⊥

-- ---- Of either document.
abbrev pub SaysOf : Task → Report → List ℕ → ProgramTree → Identifier → Type 0
SaysOf Replay = SaysOfTrace
SaysOf Check = SaysOfInvariant

abbrev pub IsReportOf : Task → Report → Type 0
IsReportOf Replay = IsTraceReport
IsReportOf Check = IsInvariantReport

-- There was no memory, or a check grew past the limit of diagrams.
abbrev pub IsLimit : Task → Report → Type 0
IsLimit task Memory = Unit {0}
IsLimit Check (Nodes limit) = Unit {0}
IsLimit task report = ⊥

-- The report is one on the bytes of the document, unless there was no memory, or a check grew past the limit of diagrams.
abbrev pub IsAnswerOf : Task → Report → Type 0
IsAnswerOf task report = IsReportOf task report ⊎ IsLimit task report

-- The same in place of an expected report. A file that is no document is told before any diagram is made, so no limit stands in its place.
abbrev pub IsLimitFor : Task → Report → Report → Type 0
IsLimitFor task (BadFile fault) report = report ≡ Memory
IsLimitFor task expected report = IsLimit task report

-- It is this one, unless the same.
abbrev pub IsUnlessLimit : Task → Report → Report → Type 0
IsUnlessLimit task expected report = (report ≡ expected) ⊎ IsLimitFor task expected report

-- The report is one that a command with a document can give once its words and its source have been read.
abbrev pub IsDocumentReport : Report → Type 0
IsDocumentReport (Safe certificate) = ⊥
IsDocumentReport (Violated trace) = ⊥
IsDocumentReport (Unknown l) = ⊥
IsDocumentReport Usage = ⊥
IsDocumentReport (Made source) = ⊥
IsDocumentReport (Toured count length certificate) = ⊥
IsDocumentReport report = Unit {0}

-- The report is one on the bytes of a trace or of an invariant file.
abbrev pub IsDocumentAnswer : Report → Type 0
IsDocumentAnswer Accepted = Unit {0}
IsDocumentAnswer (Rejected reason) = Unit {0}
IsDocumentAnswer (Falsified at) = Unit {0}
IsDocumentAnswer (AssertionFails at place) = Unit {0}
IsDocumentAnswer NeverFalse = Unit {0}
IsDocumentAnswer (Outgrown at place) = Unit {0}
IsDocumentAnswer (BadFile fault) = Unit {0}
IsDocumentAnswer report = ⊥

-- The report is this one, unless a file could not be read, there was no memory, or a check of a certificate grew past the limit of diagrams.
abbrev pub IsUnlessCut : Task → Report → Report → Type 0
IsUnlessCut Replay expected = IsUnlessCutOff expected
IsUnlessCut Check (BadFile fault) = IsUnlessCutOff (BadFile fault)
IsUnlessCut Check expected = IsUnlessLimited expected
