use Rattle.std.proofs.Common.{◌≡◌}
use Rattle.rv_diagram.specs.Nodes.{IsRef}
use Rattle.bench_diagram.proofs.parity.parity.Given as goal

abbrev pub invariant-loop-v : goal.invariant-loop-v
invariant-loop-v l = record {
  found : IsRef l.s.nodes l.all;
  variables : l.s.variables ≡ l.fn.s.variables;
}
