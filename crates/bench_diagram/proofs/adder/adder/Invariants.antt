use Rattle.std.proofs.Common.{◌≡◌}
use Rattle.rv_diagram.specs.Nodes.{IsRef}
use Rattle.bench_diagram.proofs.adder.adder.Given as goal

abbrev pub invariant-loop-v : goal.invariant-loop-v
invariant-loop-v l = record {
  carry : IsRef l.s.nodes l.carry;
  even : IsRef l.s.nodes l.even;
  variables : l.s.variables ≡ l.fn.s.variables;
}
