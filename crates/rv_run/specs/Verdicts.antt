-- What is found of an accepted source, and the report on it.
use Rattle.std.specs.Prelude.{◌≡◌, ◌⊎◌, ℕ, ℤ, Bool, List, [], Result, Ok, Err}
use Rattle.rv_base.specs.declared.value.Trace.{Trace}
use Rattle.rv_tree.specs.{Tree.ProgramTree, Places.Identifier}
use Rattle.rv_meaning.specs.{Runs.IsSafe, Integers.IsControl}
use Rattle.rv_diagram.specs.declared.store.StoreFault.{StoreFault}
use Rattle.rv_diagram.specs.declared.store.StoreFault.TheVariants as fault
use Rattle.rv_flat.specs.{declared.flat.Flat.Flat, FlatOf.IsFlatOf}
use Rattle.rv_control.specs.Control.{control_of}
use Rattle.rv_proofs.specs.{Accepted.IsAccepted, Left.IsLeftReport, declared.certificate.Certificate.Certificate, declared.report.LeftReport.LeftReport}
use Rattle.rv_walk.specs.Plain.{ArePlain}
use Rattle.rv_invfile.specs.{Csv.records_of, Rules.IsDocument, Writes.lines, Traces.trace_records, Traces.trace_rule}
use Rattle.rv_invariant.specs.{Certificates.certificate_records, Certificates.certificate_rule, Unknown.left_records}
use Rattle.rv_falsify.specs.Falsifying.{IsFalsifying, IsShortest}
use Rattle.rv_probe.specs.Probes.{FalsifiesAt, cut, probe_of}
use Rattle.rv_run.specs.Programs.{IsCertified, HasIntegers, HasManyVariables, IsUnknown, LacksGoodClaim, LacksProbe}
use Rattle.rv_run.specs.declared.verdict.Verdict.TheVariants.{Safe, Violated, Undecided}
use Rattle.rv_run.specs.{declared.report.Report.Report, declared.verdict.Verdict.Verdict}
use Rattle.rv_run.specs.declared.report.Report.TheVariants as report

-- The text is the document of the trace over the program, as it is written and as it is read.
pub record IsDocumentOf (t : Trace) (text : List ℕ) (program : ProgramTree) (main : Identifier) : Type 0 where
  pub system : Flat
  pub flat : IsFlatOf program main system
  pub written : text ≡ lines (trace_records system t)
  pub read : IsDocument (trace_rule system) (records_of text) t

-- The text is the document of the certificate over the program, as it is written and as it is read, and the certificate is accepted.
pub record IsInvariantOf (c : Certificate) (text : List ℕ) (program : ProgramTree) (main : Identifier) : Type 0 where
  pub system : Flat
  pub flat : IsFlatOf program main system
  pub written : text ≡ lines (certificate_records system c)
  pub read : IsDocument (certificate_rule system) (records_of text) c
  pub accepted : IsAccepted (control_of system) c

-- The text is the document of the unknown report over the program, as it is written and as its records are read, and the report holds a
-- left partition where there may be so many locations.
pub record IsLeftOf (limit : ℕ) (l : LeftReport) (text : List ℕ) (program : ProgramTree) (main : Identifier) : Type 0 where
  pub system : Flat
  pub flat : IsFlatOf program main system
  pub written : text ≡ lines (left_records system l)
  pub read : records_of text ≡ left_records system l
  pub left : IsLeftReport (control_of system) limit l

-- The trace is a probe of the program, cut after an instant at which it falsifies.
abbrev pub IsProbe : Trace → ProgramTree → Identifier → Type 0
IsProbe t program main = (f : Flat) × IsFlatOf program main f
    × ((b : Bool) × (c : ℤ) × (k : ℕ) × FalsifiesAt program main f b c k × (t ≡ cut k (probe_of f b c)))

-- Where a trace that falsifies comes from. It is a shortest one of a program without integers; or it is a probe, of a program that has
-- integers, or many diagram variables for so many nodes; or the program has integers, and no probe falsifies it.
abbrev pub HasOrigin : ℕ → Trace → ProgramTree → Identifier → Type 0
HasOrigin nodes t program main = (IsControl program main × IsShortest program main t)
    ⊎ ((IsProbe t program main × (HasIntegers program main ⊎ HasManyVariables nodes program main))
    ⊎ (HasIntegers program main × LacksProbe program main))

-- Falsified by the trace at its last instant, where diagrams may have so many nodes.
pub record IsViolated (nodes : ℕ) (t : Trace) (program : ProgramTree) (main : Identifier) : Type 0 where
  pub falsifying : IsFalsifying program main t
  pub origin : HasOrigin nodes t program main

-- The verdict is this trace, with its document.
abbrev pub IsTraced : Trace → ProgramTree → Identifier → Verdict → Type 0
IsTraced t program main (Violated u text) = (u ≡ t) × IsDocumentOf t text.items program main
IsTraced t program main (Safe c text) = ⊥
IsTraced t program main (Undecided l text) = ⊥

-- The verdict is right of the program, where diagrams may have so many nodes, and a left partition so many locations.
abbrev pub IsVerdictOf : ℕ → ℕ → Verdict → ProgramTree → Identifier → Type 0
IsVerdictOf nodes limit (Safe c text) program main =
    IsSafe program main × IsCertified c program main × IsInvariantOf c text.items program main
IsVerdictOf nodes limit (Violated t text) program main = IsViolated nodes t program main × IsDocumentOf t text.items program main × LacksGoodClaim program main
IsVerdictOf nodes limit (Undecided l text) program main = IsUnknown limit l program main × IsLeftOf limit l text.items program main

-- The certificate of a verdict has no loops.
abbrev pub IsPlainVerdict : Verdict → Type 0
IsPlainVerdict (Safe c text) = ArePlain c
IsPlainVerdict (Violated t text) = Unit {0}
IsPlainVerdict (Undecided l text) = Unit {0}

-- The report on a verdict, or on why there is none where diagrams may have so many nodes.
abbrev pub verdict_report : ℕ → Result Verdict StoreFault → Report
verdict_report nodes (Ok (Safe c text)) = report.Safe c
verdict_report nodes (Ok (Violated t text)) = report.Violated t
verdict_report nodes (Ok (Undecided l text)) = report.Unknown l
verdict_report nodes (Err fault.Nodes) = report.Nodes nodes
verdict_report nodes (Err fault.Memory) = report.Memory

-- The document that is shown of it.
abbrev pub verdict_document : Result Verdict StoreFault → List ℕ
verdict_document (Ok (Safe c text)) = text.items
verdict_document (Ok (Violated t text)) = text.items
verdict_document (Ok (Undecided l text)) = text.items
verdict_document (Err e) = []
