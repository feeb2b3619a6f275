use Rattle.std.proofs.Common.{◌≡◌}
use Rattle.rv_diagram.specs.Nodes.{IsRef}
use Rattle.bench_diagram.proofs.queens.queens.Given as goal

abbrev pub invariant-loop-i : goal.invariant-loop-i
invariant-loop-i l = record {
  found : IsRef l.s.nodes l.board;
  variables : l.s.variables ≡ l.fn.s.variables;
}
