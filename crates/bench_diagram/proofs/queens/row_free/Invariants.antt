use Rattle.std.proofs.Common.{◌≡◌, ◌≤◌, length}
use Rattle.rv_diagram.specs.Nodes.{IsRef}
use Rattle.bench_diagram.proofs.queens.row_free.Given as goal

abbrev pub invariant-loop-l : goal.invariant-loop-l
invariant-loop-l l = record {
  found : IsRef l.s.nodes l.free;
  longer : length l.fn.s.nodes ≤ length l.s.nodes;
  variables : l.s.variables ≡ l.fn.s.variables;
}
