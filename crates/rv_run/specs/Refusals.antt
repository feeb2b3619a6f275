-- The report on a source that is not accepted.
use Rattle.rv_source.specs.declared.fault.SourceFault.{SourceFault}
use Rattle.rv_source.specs.declared.fault.SourceFault.TheVariants.{Text, Names, Cause, Memory as NoMemory}
use Rattle.rv_run.specs.{declared.report.Report.Report, declared.report.Report.TheVariants.Refused, declared.report.Report.TheVariants.Memory}

-- Want of memory is reported as such, and any other fault as a refusal.
abbrev pub refusal_of : SourceFault → Report
refusal_of NoMemory = Memory
refusal_of (Text fault) = Refused (Text fault)
refusal_of (Names fault) = Refused (Names fault)
refusal_of (Cause fault) = Refused (Cause fault)
