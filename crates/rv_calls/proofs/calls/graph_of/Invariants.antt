use Rattle.std.proofs.Common.{◌≡◌, ◌++◌, drop}
use Rattle.rv_calls.specs.Callings.{call_graph}
use Rattle.rv_calls.proofs.calls.graph_of.Given as goal

abbrev pub invariant-loop-calls : goal.invariant-loop-calls
invariant-loop-calls l = l.graph ++ call_graph (drop l.calls-index l.calls-items) ≡ call_graph l.table
