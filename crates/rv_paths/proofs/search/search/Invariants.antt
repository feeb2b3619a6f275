use Rattle.std.proofs.Common.{◌≡◌}
use Rattle.rv_proofs.specs.{Systems.System, Ranges.IsControlSet}
use Rattle.rv_symbolic.specs.Represented.{IsRelationOf}
use Rattle.rv_paths.specs.Searching.{AreNodes, IsPlanOf}
use Rattle.rv_paths.proofs.search.search.Given as goal

abbrev pub invariant-loop-visit : goal.invariant-loop-visit
invariant-loop-visit l = record {
  same : l.store ≡ l.initial.store;
  nodes : (s : System) → IsRelationOf s l.initial.store l.relation → IsPlanOf s l.plan → IsControlSet s l.fn.first → AreNodes s l.tree.nodes;
}
