use Rattle.std.proofs.Common.{◌≡◌, ◌≤◌, length}
use Rattle.rv_diagram.specs.Nodes.{IsRef}
use Rattle.bench_diagram.proofs.queens.place_free.Given as goal

abbrev pub invariant-loop-k : goal.invariant-loop-k
invariant-loop-k l = record {
  found : IsRef l.s.nodes l.free;
  longer : length l.fn.s.nodes ≤ length l.s.nodes;
  variables : l.s.variables ≡ l.fn.s.variables;
}
