-- The text and the status of a report.
use Rattle.std.specs.Prelude.{ℕ, Bool, true, false, cond, List, [], ◌∷◌, ◌++◌, codes, map, flat_map}
use Rattle.std.specs.Fmt.{decimal}
use Rattle.rv_base.specs.declared.value.Place.{Place}
use Rattle.rv_syntax.specs.declared.fault.TextFault.{TextFault}
use Rattle.rv_syntax.specs.declared.fault.TextFault.TheVariants.{BadText, TooDeep, LeftOut, Memory as TextMemory}
use Rattle.rv_types.specs.declared.fault.NameFault.{NameFault}
use Rattle.rv_types.specs.declared.fault.NameFault.TheVariants.{NoNode, UnknownName, DefinedTwice, Undefined, TypeClash, Nonlinear, ClockClash, NotObserver}
use Rattle.rv_types.specs.declared.fault.NameFault.TheVariants.{Memory as NameMemory}
use Rattle.rv_calls.specs.declared.fault.CauseFault.TheVariants.{Recursive, Cycle, TooLarge, TooWide, Memory as CauseMemory}
use Rattle.rv_calls.specs.{declared.fault.CauseFault.CauseFault, declared.fault.Quantity.Quantity}
use Rattle.rv_calls.specs.declared.fault.Quantity.TheVariants as quantity
use Rattle.rv_invfile.specs.declared.fault.FileFault.{FileFault}
use Rattle.rv_invfile.specs.declared.fault.FileFault.TheVariants.{NotRecords, WrongKind, WrongProgram, BadNumber, Ends, Memory as FileMemory}
use Rattle.rv_proofs.specs.declared.verdict.Reason.{Reason}
use Rattle.rv_proofs.specs.declared.verdict.Reason.TheVariants.{NoInitial, Uncovered, Unsettled, Observer, Target, Multipliers, Inclusion}
use Rattle.rv_source.specs.declared.fault.SourceFault.{SourceFault}
use Rattle.rv_source.specs.declared.fault.SourceFault.TheVariants.{Text, Names, Cause, Memory as SourceMemory}
use Rattle.rv_run.specs.declared.report.Report.TheVariants.{Safe, Violated, Unknown, Nodes, Accepted, Rejected, Falsified, AssertionFails, NeverFalse, Outgrown}
use Rattle.rv_run.specs.declared.report.Report.TheVariants.{Made, Toured, Refused, BadFile, TooLong, ReadFault, Usage, Memory}
use Rattle.rv_run.specs.declared.report.Sent.TheVariants.{Whole, Failed, Memory as SentMemory}
use Rattle.rv_run.specs.{declared.report.Report.Report, declared.report.Sent.Sent}

-- A record ends with a line feed.
abbrev pub record_of : List ℕ → List ℕ
record_of fields = fields ++ 10 ∷ []

-- The record of a fault of text: its number, its name and its offset.
abbrev pub text_of_fault : TextFault → List ℕ
text_of_fault (BadText at) = record_of (codes "reaver,refused,1,badtext," ++ decimal at)
text_of_fault (TooDeep at) = record_of (codes "reaver,refused,2,toodeep," ++ decimal at)
text_of_fault (LeftOut at) = record_of (codes "reaver,refused,3,leftout," ++ decimal at)
text_of_fault TextMemory = record_of (codes "reaver,memory")

-- The record of a fault of names, types or clocks: its number, its name and its offset where it has one.
abbrev pub text_of_name_fault : NameFault → List ℕ
text_of_name_fault NoNode = record_of (codes "reaver,refused,4,nonode")
text_of_name_fault (UnknownName at) = record_of (codes "reaver,refused,5,unknownname," ++ decimal at)
text_of_name_fault (DefinedTwice at) = record_of (codes "reaver,refused,6,definedtwice," ++ decimal at)
text_of_name_fault (Undefined at) = record_of (codes "reaver,refused,7,undefined," ++ decimal at)
text_of_name_fault (TypeClash at) = record_of (codes "reaver,refused,8,typeclash," ++ decimal at)
text_of_name_fault (Nonlinear at) = record_of (codes "reaver,refused,9,nonlinear," ++ decimal at)
text_of_name_fault (ClockClash at) = record_of (codes "reaver,refused,10,clockclash," ++ decimal at)
text_of_name_fault (NotObserver at) = record_of (codes "reaver,refused,11,notobserver," ++ decimal at)
text_of_name_fault NameMemory = record_of (codes "reaver,memory")

-- a place: its numbers, joined by points
abbrev pub dotted : List ℕ → List ℕ
dotted [] = []
dotted (site ∷ sites) = decimal site ++ flat_map (λ s. 46 ∷ decimal s) sites

-- places, a comma before each
abbrev pub listed : List Place → List ℕ
listed places = flat_map (λ p. 44 ∷ dotted p.sites) places

-- the name of a quantity
abbrev pub quantity_name : Quantity → List ℕ
quantity_name quantity.Instances = codes "instances"
quantity_name quantity.Expanded = codes "expanded"
quantity_name quantity.Memories = codes "memories"
quantity_name quantity.Inputs = codes "inputs"
quantity_name quantity.Labels = codes "labels"
quantity_name quantity.Variables = codes "variables"

-- The record of a fault of recursion, sizes, cycles or weights: its number, its name, and its offset, its places, or the
-- quantity and how large it is.
abbrev pub text_of_cause : CauseFault → List ℕ
text_of_cause (Recursive at) = record_of (codes "reaver,refused,12,recursive," ++ decimal at)
text_of_cause (Cycle places) = record_of (codes "reaver,refused,13,cycle" ++ listed places)
text_of_cause (TooLarge quantity number) = record_of (codes "reaver,refused,14,toolarge," ++ quantity_name quantity ++ 44 ∷ decimal number)
text_of_cause (TooWide at) = record_of (codes "reaver,refused,15,toowide," ++ decimal at)
text_of_cause CauseMemory = record_of (codes "reaver,memory")

-- The record of a refusal.
abbrev pub text_of_refusal : SourceFault → List ℕ
text_of_refusal (Text fault) = text_of_fault fault
text_of_refusal (Names fault) = text_of_name_fault fault
text_of_refusal (Cause fault) = text_of_cause fault
text_of_refusal SourceMemory = record_of (codes "reaver,memory")

-- The record of a fault of a file: its number, its name, the record, and the field where it has one.
abbrev pub text_of_file_fault : FileFault → List ℕ
text_of_file_fault (NotRecords n) = record_of (codes "reaver,badfile,1,notrecords," ++ decimal n)
text_of_file_fault (WrongKind n) = record_of (codes "reaver,badfile,2,wrongkind," ++ decimal n)
text_of_file_fault (WrongProgram n) = record_of (codes "reaver,badfile,3,wrongprogram," ++ decimal n)
text_of_file_fault (BadNumber n field) = record_of (codes "reaver,badfile,4,badnumber," ++ decimal n ++ 44 ∷ decimal field)
text_of_file_fault (Ends n) = record_of (codes "reaver,badfile,5,ends," ++ decimal n)
text_of_file_fault FileMemory = record_of (codes "reaver,memory")

-- a valuation, a digit for each diagram variable
abbrev pub digits : List Bool → List ℕ
digits word = map (λ bit. cond bit 49 48) word

-- The record of a reason: its number, its name and its fields.
abbrev pub text_of_reason : Reason → List ℕ
text_of_reason (NoInitial word) = record_of (codes "reaver,rejected,1,noinitial," ++ digits word)
text_of_reason (Uncovered location word) = record_of (codes "reaver,rejected,2,uncovered," ++ decimal location ++ 44 ∷ digits word)
text_of_reason (Unsettled location entry) = record_of (codes "reaver,rejected,3,unsettled," ++ decimal location ++ 44 ∷ decimal entry)
text_of_reason (Observer location entry word) = record_of (codes "reaver,rejected,4,observer," ++ decimal location ++ 44 ∷ decimal entry ++ 44 ∷ digits word)
text_of_reason (Target location entry word) = record_of (codes "reaver,rejected,5,target," ++ decimal location ++ 44 ∷ decimal entry ++ 44 ∷ digits word)
text_of_reason (Multipliers location entry number) =
    record_of (codes "reaver,rejected,6,multipliers," ++ decimal location ++ 44 ∷ decimal entry ++ 44 ∷ decimal number)
text_of_reason (Inclusion location row) = record_of (codes "reaver,rejected,7,inclusion," ++ decimal location ++ 44 ∷ decimal row)

-- a report whose document is shown
abbrev pub is_documented : Report → Bool
is_documented (Safe certificate) = true
is_documented (Violated trace) = true
is_documented (Unknown l) = true
is_documented report = false

-- What is printed where the words are no command: what they may be.
abbrev pub usage_text : List ℕ
usage_text = record_of (codes "reaver,usage")
    ++ record_of (codes "prove FILE NODE [--nodes N] [--locations L] [--accelerate yes|no]")
    ++ record_of (codes "check FILE NODE INVARIANT [--nodes N]")
    ++ record_of (codes "replay FILE NODE TRACE")
    ++ record_of (codes "make N")
    ++ record_of (codes "tour N")

-- What is printed for a report. Safe, Violated and Unknown have no text of their own: the document of their certificate, of their trace or
-- of what is left is shown.
abbrev pub text_of : Report → List ℕ
text_of (Safe certificate) = []
text_of Accepted = record_of (codes "reaver,accepted")
text_of (Rejected reason) = text_of_reason reason
text_of (Violated trace) = []
text_of (Unknown l) = []
text_of (Nodes limit) = record_of (codes "reaver,nodes," ++ decimal limit)
text_of (Falsified at) = record_of (codes "reaver,falsified," ++ decimal at)
text_of (AssertionFails at place) = record_of (codes "reaver,assertion," ++ decimal at ++ 44 ∷ dotted place.sites)
text_of NeverFalse = record_of (codes "reaver,neverfalse")
text_of (Outgrown at place) = record_of (codes "reaver,outgrown," ++ decimal at ++ 44 ∷ dotted place.sites)
text_of (Refused fault) = text_of_refusal fault
text_of (BadFile fault) = text_of_file_fault fault
text_of (TooLong count) = record_of (codes "reaver,toolong," ++ decimal count)
text_of ReadFault = record_of (codes "reaver,readfault")
text_of Usage = usage_text
text_of (Made source) = source
text_of (Toured count length certificate) = record_of (codes "reaver,tour," ++ decimal count ++ 44 ∷ decimal length ++ codes ",safe")
text_of Memory = record_of (codes "reaver,memory")

-- What is shown of a report and the document beside it.
abbrev pub shown_of : Report → List ℕ → List ℕ
shown_of report document = cond (is_documented report) document (text_of report)

-- The status of a report that was shown whole.
abbrev pub report_status : Report → ℕ
report_status (Safe certificate) = 0
report_status (Violated trace) = 1
report_status (Unknown l) = 2
report_status (Nodes limit) = 2
report_status Accepted = 0
report_status (Rejected reason) = 1
report_status (Falsified at) = 0
report_status (AssertionFails at place) = 1
report_status NeverFalse = 1
report_status (Outgrown at place) = 10
report_status (BadFile fault) = 8
report_status (Refused fault) = 3
report_status Usage = 4
report_status (Made source) = 0
report_status (Toured count length certificate) = 0
report_status ReadFault = 5
report_status Memory = 7
report_status (TooLong count) = 9

-- The status that the program ends with: 6 where the report was not shown for a failure, 7 where it was not shown
-- for want of memory, else that of the report.
abbrev pub status_of : Report → Sent → ℕ
status_of report Whole = report_status report
status_of report Failed = 6
status_of report SentMemory = 7
