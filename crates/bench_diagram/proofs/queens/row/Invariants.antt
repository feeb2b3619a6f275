use Rattle.std.proofs.Common.{◌≡◌, ◌≤◌, length}
use Rattle.rv_diagram.specs.Nodes.{IsRef}
use Rattle.bench_diagram.proofs.queens.row.Given as goal

abbrev pub invariant-loop-j : goal.invariant-loop-j
invariant-loop-j l = record {
  found : IsRef l.s.nodes l.board;
  longer : length l.fn.s.nodes ≤ length l.s.nodes;
  variables : l.s.variables ≡ l.fn.s.variables;
}
