-- What holds of less holds of more, and what is shown of a report.
use Rattle.std.proofs.Common.{◌≡◌, ℕ, List, ◌⊎◌, inl, inr, Some, None, Option, refl, IsSomeAnd}
use Rattle.rv_base.specs.{Shelf.Shelf, Shelf.HoldsUnder, declared.value.Trace.Trace}
use Rattle.rv_tree.specs.{Tree.ProgramTree, Places.Identifier}
use Rattle.rv_run.specs.Checked.{IsInvariantFault, IsInvariantReport, IsReportOf, SaysOf, SaysOfInvariant}
use Rattle.rv_run.specs.{Words.Wanted, Answers.OnFile, Answers.OnDocument, Answers.IsShown, Traced.IsFileFault, Traced.IsTraceReport, Traced.OnAccepted}
use Rattle.rv_run.specs.{Traced.SaysOfTrace, declared.words.Task.Task, declared.words.Task.TheVariants.Replay, declared.words.Task.TheVariants.Check}
use Rattle.rv_run.specs.{Printed.shown_of, Programs.OnProgram, Programs.WithRuns, Verdicts.IsDocumentOf, Verdicts.IsInvariantOf, Verdicts.IsLeftOf}
use Rattle.rv_run.specs.declared.report.Report.{Report}
use Rattle.rv_run.specs.declared.report.Report.TheVariants.{Safe, Violated, Unknown, BadFile}
use Rattle.rv_invfile.specs.declared.fault.FileFault.{FileFault}
use Rattle.rv_proofs.specs.{declared.certificate.Certificate.Certificate, declared.report.LeftReport.LeftReport}
use Rattle.rv_run.proofs.Named.{more_under}

pub runs_more : (P Q : ProgramTree → Identifier → Type 0) (p : ProgramTree) (m : Identifier) → (P p m → Q p m) → WithRuns P p m → WithRuns Q p m
runs_more P Q p m to is = record { sequence = is.sequence; ordered = is.ordered; runs = is.runs; holds = to is.holds }

pub program_more : (P Q : ProgramTree → Identifier → Type 0) (bytes : List ℕ) (node : Identifier) → ((p : ProgramTree) (m : Identifier) → P p m → Q p m)
    → OnProgram P bytes node → OnProgram Q bytes node
program_more P Q bytes node to is = record { program = is.program; typed = is.typed; source = is.source; holds = to is.program node is.holds }

pub file_more : (held : Option Shelf) (w : Wanted) (P Q : ProgramTree → Identifier → Type 0) → ((p : ProgramTree) (m : Identifier) → P p m → Q p m)
    → OnFile held w (OnProgram P) → OnFile held w (OnProgram Q)
file_more held w P Q to = by (w.named)
  where
    by : (o : Option (List ℕ × List ℕ)) → IsSomeAnd o (λ n. HoldsUnder held n.0 (λ bytes. OnProgram P bytes n.1))
        → IsSomeAnd o (λ n. HoldsUnder held n.0 (λ bytes. OnProgram Q bytes n.1))
    by None h = h
    by (Some n) h = more_under held n.0 (λ bytes. OnProgram P bytes n.1) (λ bytes. OnProgram Q bytes n.1) (λ bytes. program_more P Q bytes n.1 to) h

pub is_shown : (held : Option Shelf) (w : Wanted) (r : Report) (document : List ℕ)
    → ((c : Certificate) → r ≡ Safe c → OnFile held w (OnProgram (IsInvariantOf c document)))
    → ((t : Trace) → r ≡ Violated t → OnFile held w (OnProgram (IsDocumentOf t document)))
    → ((l : LeftReport) → r ≡ Unknown l → OnFile held w (OnProgram (IsLeftOf w.locations l document))) → IsShown held w r (shown_of r document)
is_shown held w (Safe c) document safe violated left = safe c refl
is_shown held w (Violated t) document safe violated left = violated t refl
is_shown held w (Unknown l) document safe violated left = left l refl
is_shown held w r document safe violated left = refl

-- ---- Of what is told of a document, what is told of a trace or of an invariant file.
module _ (held : Option Shelf) (w : Wanted) where
  pub of_replay : (x : Report) → (IsInvariantReport x → ⊥) → (task : Task) × IsReportOf task x × OnDocument held w task (OnAccepted (SaysOf task x))
      → OnDocument held w Replay (OnAccepted (SaysOfTrace x))
  of_replay x other (Replay, is, on) = on
  of_replay x other (Check, is, on) = absurd (other is)

  pub of_check : (x : Report) → (IsTraceReport x → ⊥) → (task : Task) × IsReportOf task x × OnDocument held w task (OnAccepted (SaysOf task x))
      → OnDocument held w Check (OnAccepted (SaysOfInvariant x))
  of_check x other (Check, is, on) = on
  of_check x other (Replay, is, on) = absurd (other is)

  pub of_either : (fault : FileFault) → (task : Task) × IsReportOf task (BadFile fault) × OnDocument held w task (OnAccepted (SaysOf task (BadFile fault)))
      → OnDocument held w Replay (OnAccepted (IsFileFault fault)) ⊎ OnDocument held w Check (OnAccepted (IsInvariantFault fault))
  of_either fault (Replay, is, on) = inl on
  of_either fault (Check, is, on) = inr on
