use Rattle.rv_invfile.specs.Traces.{trace_rule}
use Rattle.rv_invfile.proofs.{Begins.awaited-begins, ReadBack.trace-alive}
use Rattle.rv_invfile.proofs.laws.awaited_records.Goals as goal

pub returns : goal.returns
returns c f told has before r n = awaited-begins (trace_rule f) (trace-alive f told has) before r n
