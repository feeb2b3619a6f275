use Rattle.std.proofs.Common.{◌≡◌, ◌≤◌, length}
use Rattle.rv_proofs.specs.Systems.{System}
use Rattle.rv_paths.specs.Searching.{AreNodes, IsSetting}
use Rattle.rv_paths.proofs.search.grow.Given as goal

abbrev pub invariant-loop-case : goal.invariant-loop-case
invariant-loop-case l = record {
  same : l.store ≡ l.initial.store;
  more : length l.initial.nodes ≤ length l.nodes;
  nodes : (s : System) → IsSetting s l.initial.store l.relation l.plan l.initial.nodes → AreNodes s l.nodes;
}
