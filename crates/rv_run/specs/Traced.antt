-- What a replay says of the bytes of a trace: the trace that they are and what it does, or why they are none.
use Rattle.std.specs.Prelude.{◌≡◌, ◌⊎◌, ◌<◌, ◌≤◌, ℕ, List, length, ⊤}
use Rattle.rv_base.specs.{declared.value.Trace.Trace, Limits.source_limit}
use Rattle.rv_tree.specs.{Tree.ProgramTree, Places.Identifier}
use Rattle.rv_flat.specs.{declared.flat.Flat.Flat, FlatOf.IsFlatOf}
use Rattle.rv_invfile.specs.{Csv.records_of, Rules.IsDocument, Faults.IsFirstFault, Traces.trace_rule, declared.fault.FileFault.FileFault}
use Rattle.rv_replay.specs.Replays.{FailsAt, IsFalsifiedAt, NeverEnds, OutgrowsAt}
use Rattle.rv_run.specs.declared.report.Report.TheVariants.{Falsified, AssertionFails, NeverFalse, Outgrown, BadFile, Memory}
use Rattle.rv_run.specs.{declared.report.Report.Report, Programs.OnProgram}

-- how many bytes a file with a document may have
abbrev pub file_limit : ℕ
file_limit = 67108864

-- The records of the bytes are the document of this trace of the program.
abbrev pub IsTraceDocument : Trace → List ℕ → ProgramTree → Identifier → Type 0
IsTraceDocument t document program main = (f : Flat) × IsFlatOf program main f × IsDocument (trace_rule f) (records_of document) t

-- They are the document of no trace of it, and this is their first fault.
abbrev pub IsFileFault : FileFault → List ℕ → ProgramTree → Identifier → Type 0
IsFileFault fault document program main = (f : Flat) × IsFlatOf program main f × IsFirstFault (trace_rule f) (records_of document) fault

-- They are the document of a trace of it of which this holds.
abbrev pub OnTrace : (ProgramTree → Identifier → Trace → Type 0) → List ℕ → ProgramTree → Identifier → Type 0
OnTrace P document program main = (t : Trace) × IsTraceDocument t document program main × P program main t

-- What a report on the bytes of a trace says of them and of the program; any other report says nothing that could be so.
abbrev pub SaysOfTrace : Report → List ℕ → ProgramTree → Identifier → Type 0
SaysOfTrace (Falsified k) = OnTrace (λ p m t. IsFalsifiedAt p m t k)
SaysOfTrace (AssertionFails k at) = OnTrace (λ p m t. FailsAt p m t k at)
SaysOfTrace NeverFalse = OnTrace (λ p m t. NeverEnds p m t)
SaysOfTrace (Outgrown k at) = OnTrace (λ p m t. OutgrowsAt p m t k at)
SaysOfTrace (BadFile fault) = IsFileFault fault
SaysOfTrace report = λ document program main. ⊥

-- The report is one on the bytes of a trace.
abbrev pub IsTraceReport : Report → Type 0
IsTraceReport (Falsified k) = Unit {0}
IsTraceReport (AssertionFails k at) = Unit {0}
IsTraceReport NeverFalse = Unit {0}
IsTraceReport (Outgrown k at) = Unit {0}
IsTraceReport (BadFile fault) = Unit {0}
IsTraceReport report = ⊥

-- It is one, or there was no memory.
abbrev pub IsTraceAnswer : Report → Type 0
IsTraceAnswer report = IsTraceReport report ⊎ (report ≡ Memory)

-- The report is this one, unless there was no memory.
abbrev pub IsUnlessNoMemory : Report → Report → Type 0
IsUnlessNoMemory expected report = (report ≡ expected) ⊎ (report ≡ Memory)

-- The source and the document are no longer than they may be, the source is accepted with this node, and P holds of the bytes of the
-- document, the program and the node.
abbrev pub OnAccepted : (List ℕ → ProgramTree → Identifier → Type 0) → List ℕ → Identifier → List ℕ → Type 0
OnAccepted P bytes node document = (length bytes ≤ source_limit) × (length document ≤ file_limit) × OnProgram (P document) bytes node

-- The source is no longer than it may be and accepted with this node, and the document is longer than it may be.
abbrev pub IsLongDocument : List ℕ → Identifier → List ℕ → Type 0
IsLongDocument bytes node document = (length bytes ≤ source_limit) × (file_limit < length document) × OnProgram (λ program main. ⊤) bytes node
