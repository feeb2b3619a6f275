-- The reports on a document that was read or not.
use Rattle.std.specs.Prelude.{ℕ, Result, Ok, Err}
use Rattle.rv_invfile.specs.declared.fault.FileFault.{FileFault}
use Rattle.rv_invfile.specs.declared.fault.FileFault.TheVariants.{NotRecords, WrongKind, WrongProgram, BadNumber, Ends, Memory as NoMemory}
use Rattle.rv_replay.specs.{declared.replayed.Replayed.Replayed, declared.replayed.ReplayFault.ReplayFault}
use Rattle.rv_replay.specs.declared.replayed.Replayed.TheVariants as replayed
use Rattle.rv_replay.specs.declared.replayed.ReplayFault.TheVariants as replay_fault
use Rattle.rv_run.specs.declared.report.Report.{Report}
use Rattle.rv_run.specs.declared.report.Report.TheVariants.{Nodes, Accepted, Rejected, Falsified, AssertionFails, NeverFalse, Outgrown, BadFile, Memory}
use Rattle.rv_diagram.specs.declared.store.StoreFault.{StoreFault}
use Rattle.rv_diagram.specs.declared.store.StoreFault.TheVariants as store
use Rattle.rv_proofs.specs.declared.verdict.Verdict.{Verdict}
use Rattle.rv_proofs.specs.declared.verdict.Verdict.TheVariants as verdict

-- The report on a fault of the file: want of memory is none.
abbrev pub file_report : FileFault → Report
file_report NoMemory = Memory
file_report (NotRecords n) = BadFile (NotRecords n)
file_report (WrongKind n) = BadFile (WrongKind n)
file_report (WrongProgram n) = BadFile (WrongProgram n)
file_report (BadNumber n i) = BadFile (BadNumber n i)
file_report (Ends n) = BadFile (Ends n)

-- The report on how a replay ended.
abbrev pub replay_report : Result Replayed ReplayFault → Report
replay_report (Ok (replayed.Falsified k)) = Falsified k
replay_report (Ok (replayed.AssertionFails k at)) = AssertionFails k at
replay_report (Ok replayed.NeverFalse) = NeverFalse
replay_report (Err (replay_fault.Outgrown k at)) = Outgrown k at
replay_report (Err replay_fault.Memory) = Memory

-- The report on the verdict on a certificate, or on why there is none where diagrams may have so many nodes.
abbrev pub accepted_report : ℕ → Result Verdict StoreFault → Report
accepted_report nodes (Ok verdict.Accepted) = Accepted
accepted_report nodes (Ok (verdict.Rejected reason)) = Rejected reason
accepted_report nodes (Err store.Nodes) = Nodes nodes
accepted_report nodes (Err store.Memory) = Memory
