-- What the answer to a command says, and which answer comes where, given what the words ask for and what the files hold.
use Rattle.std.specs.Prelude.{◌≡◌, ◌+◌, ◌<◌, ◌≤◌, ◌⊎◌, ℕ, false, List, length, codes, None, Option, Some}
use Rattle.rv_base.specs.{Shelf.Shelf, declared.value.Trace.Trace, Limits.source_limit}
use Rattle.rv_meaning.specs.Runs.{IsSafe}
use Rattle.rv_make.specs.Made.{made_text}
use Rattle.rv_proofs.specs.{declared.certificate.Certificate.Certificate, declared.report.LeftReport.LeftReport}
use Rattle.rv_walk.specs.Plain.{ArePlain}
use Rattle.rv_source.specs.declared.fault.SourceFault.{SourceFault}
use Rattle.rv_run.specs.declared.report.Report.TheVariants.{Safe, Violated, Unknown, Nodes, Accepted, Made, Toured, Refused, TooLong, Memory}
use Rattle.rv_run.specs.Answers.{OnFile, OnDocument, OnSource, IsTold, IsToldDocument, IsVerdict, IsNodesReport, IsTouredReport, IsUnlessCutOff}
use Rattle.rv_run.specs.Answers.{IsJudgedUnlessLimited, IsSafeUnlessCutOff, IsViolatedUnlessCutOff, IsViolatedUnlessUnread, IsRefusalUnlessCutOff}
use Rattle.rv_run.specs.Checked.{IsDocumentAnswer, IsReportOf, IsUnlessCut, SaysOf}
use Rattle.rv_run.specs.Programs.{OnProgram, WithRuns, HasGoodClaim, IsSafeControl, IsUnsafeControl, HasManyVariables, HasProbe, LacksProbe, IsCertified}
use Rattle.rv_run.specs.Programs.{IsProgram, IsUnknown, IsRefusedFor}
use Rattle.rv_run.specs.{Words.Wanted, declared.words.Task.Task, declared.report.Report.Report, Traced.IsLongDocument, Traced.OnAccepted, Traced.file_limit}
use Rattle.rv_run.specs.Verdicts.{IsDocumentOf, IsInvariantOf, IsLeftOf, IsViolated}

-- Of the source in a file the report is Safe, Violated, Unknown, Nodes or a refusal, of a document beside it what it is and does; of a
-- source that is made, its text, or that it is safe.
pub record Replies (held : Option Shelf) (w : Wanted) (report : Report) (document : List ℕ) : Type 0 where
  pub safe : (c : Certificate) → report ≡ Safe c → OnFile held w (OnProgram (WithRuns IsSafe))
  pub certified : (c : Certificate) → report ≡ Safe c → OnFile held w (OnProgram (IsCertified c))
  pub invariant : (c : Certificate) → report ≡ Safe c → OnFile held w (OnProgram (IsInvariantOf c document))
  pub plain : (c : Certificate) → report ≡ Safe c → w.accelerate ≡ false → ArePlain c
  pub violated : (t : Trace) → report ≡ Violated t → OnFile held w (OnProgram (WithRuns (IsViolated w.nodes t)))
  pub document_of : (t : Trace) → report ≡ Violated t → OnFile held w (OnProgram (IsDocumentOf t document))
  pub unknown : (l : LeftReport) → report ≡ Unknown l → OnFile held w (OnProgram (WithRuns (IsUnknown w.locations l)))
  pub left : (l : LeftReport) → report ≡ Unknown l → OnFile held w (OnProgram (IsLeftOf w.locations l document))
  pub nodes : (n : ℕ) → report ≡ Nodes n → (n ≡ w.nodes) × OnSource held w (OnProgram (HasManyVariables n))
  pub unprobed : w.beside ≡ None → (n : ℕ) → report ≡ Nodes n → OnSource held w (OnProgram LacksProbe)
  pub checked_safe : report ≡ Accepted → OnFile held w (OnProgram (WithRuns IsSafe))
  pub not_too_long : IsVerdict report ⊎ IsNodesReport report → OnSource held w (λ bytes node. length bytes ≤ source_limit)
  pub proved : IsVerdict report → w.beside ≡ None
  pub told : (x : Report) → IsDocumentAnswer x → report ≡ x → (task : Task) × IsReportOf task x × OnDocument held w task (OnAccepted (SaysOf task x))
  pub refused : (fault : SourceFault) → report ≡ Refused fault → OnFile held w (λ bytes node. (length bytes ≤ source_limit) × IsRefusedFor fault bytes node)
  pub too_long : (n : ℕ) → report ≡ TooLong n
      → ((n ≡ source_limit + 1) × OnFile held w (λ bytes node. source_limit < length bytes))
      ⊎ ((n ≡ file_limit + 1) × (task : Task) × OnDocument held w task IsLongDocument)
  pub made : (source : List ℕ) → report ≡ Made source → (n : ℕ) × (w.made ≡ Some n) × (source ≡ made_text n)
  pub toured : (n size : ℕ) (c : Certificate) → report ≡ Toured n size c
      → (w.toured ≡ Some n) × (size ≡ length (made_text n)) × OnProgram (WithRuns IsSafe) (made_text n) (codes "main") × OnProgram (IsCertified c) (made_text n)
      (codes "main")
  pub only_safe : w.beside ≡ None → IsTold held w (λ bytes node. (length bytes ≤ source_limit) × OnProgram IsSafeControl bytes node) → IsSafeUnlessCutOff report
  pub only_violated : w.beside ≡ None → IsTold held w (λ bytes node. (length bytes ≤ source_limit) × OnProgram IsUnsafeControl bytes node)
      → IsViolatedUnlessCutOff report
  pub only_probed : w.beside ≡ None → IsTold held w (λ bytes node. (length bytes ≤ source_limit) × OnProgram HasProbe bytes node)
      → IsViolatedUnlessUnread report
  pub only_claimed : w.beside ≡ None → IsTold held w (λ bytes node. (length bytes ≤ source_limit) × OnProgram HasGoodClaim bytes node)
      → IsSafeUnlessCutOff report
  pub only_judged : w.beside ≡ None → IsTold held w (λ bytes node. (length bytes ≤ source_limit) × OnProgram IsProgram bytes node)
      → IsJudgedUnlessLimited report
  pub only_told : (task : Task) (x : Report) → IsToldDocument held w task (OnAccepted (SaysOf task x)) → IsUnlessCut task x report
  pub only_refused : (fault : SourceFault) → IsTold held w (λ bytes node. (length bytes ≤ source_limit) × IsRefusedFor fault bytes node)
      → IsRefusalUnlessCutOff fault report
  pub only_too_long : IsTold held w (λ bytes node. source_limit < length bytes) → IsUnlessCutOff (TooLong (source_limit + 1)) report
  pub only_long_document : (task : Task) → IsToldDocument held w task IsLongDocument → IsUnlessCutOff (TooLong (file_limit + 1)) report
  pub only_made : (n : ℕ) → w.made ≡ Some n → (report ≡ Made (made_text n)) ⊎ (report ≡ Memory)
  pub only_toured : (n : ℕ) → w.toured ≡ Some n → IsTouredReport report ⊎ (IsNodesReport report ⊎ (report ≡ Memory))
