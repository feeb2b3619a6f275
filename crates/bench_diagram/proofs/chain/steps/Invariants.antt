use Rattle.std.proofs.Common.{◌≡◌}
use Rattle.rv_diagram.specs.Nodes.{IsRef}
use Rattle.bench_diagram.proofs.chain.steps.Given as goal

abbrev pub invariant-loop-back : goal.invariant-loop-back
invariant-loop-back l = record {
  whole : IsRef l.s.nodes l.whole;
  variables : l.s.variables ≡ l.fn.s.variables;
}
