-- How many files are loaded for a command: the source first, and the document beside it only where the source is accepted.
use Rattle.std.specs.Prelude.{◌≡◌, ◌⊎◌, ◌+◌, ◌<◌, ◌≤◌, ℕ, List, length, None, Option}
use Rattle.rv_base.specs.{Causes.raised, Limits.source_limit, Shelf.Shelf}
use Rattle.rv_source.specs.declared.fault.SourceFault.{SourceFault}
use Rattle.rv_run.specs.{Answers.IsTold, Answers.OnFile, Programs.IsProgram, Programs.IsRefusedFor, Programs.OnProgram, Words.Wanted}
use Rattle.rv_run.specs.{declared.report.Report.Report, declared.report.Report.TheVariants.Refused, declared.report.Report.TheVariants.TooLong}
use Rattle.rv_run.specs.declared.report.Report.TheVariants.{ReadFault}

-- A count of loads stands still or has risen by one.
abbrev pub IsOneAtMost : ℕ → ℕ → Type 0
IsOneAtMost before now = (now ≡ before) ⊎ (now ≡ raised before)

-- The source is no longer than it may be, and has this fault for which it is refused.
abbrev pub IsRefusedSource : SourceFault → List ℕ → List ℕ → Type 0
IsRefusedSource fault bytes node = (length bytes ≤ source_limit) × IsRefusedFor fault bytes node

-- The source is no longer than it may be, and accepted with this node.
abbrev pub IsAcceptedSource : List ℕ → List ℕ → Type 0
IsAcceptedSource bytes node = (length bytes ≤ source_limit) × OnProgram IsProgram bytes node

-- One load was counted, and the bytes of the source are accepted with this node.
abbrev pub IsBehind : List ℕ → List ℕ → ℕ → ℕ → Type 0
IsBehind bytes node before now = (now ≡ raised before) × OnProgram IsProgram bytes node

-- Two loads were counted, and what is held under the file of the source is accepted.
abbrev pub IsBehindSource : Option Shelf → Wanted → ℕ → ℕ → Type 0
IsBehindSource held w before now = (now ≡ raised (raised before)) × OnFile held w IsAcceptedSource

-- The counts of loads before and after a command, given what its words ask for, what the files hold and what is reported.
pub record LoadsInOrder (held : Option Shelf) (w : Wanted) (report : Report) (before now : ℕ) : Type 0 where
  pub most : IsOneAtMost before now ⊎ IsBehindSource held w before now
  pub unnamed : w.named ≡ None → now ≡ before
  pub alone : w.beside ≡ None → IsOneAtMost before now
  pub refused : (fault : SourceFault) → report ≡ Refused fault → now ≡ raised before
  pub too_long : report ≡ TooLong (source_limit + 1) → now ≡ raised before
  pub read_fault : report ≡ ReadFault → (now ≡ raised before) ⊎ IsBehindSource held w before now
  pub told_refused : (fault : SourceFault) → IsTold held w (IsRefusedSource fault) → IsOneAtMost before now
  pub told_too_long : IsTold held w (λ bytes node. source_limit < length bytes) → IsOneAtMost before now
