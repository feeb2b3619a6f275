use Rattle.std.proofs.Common.{◌≡◌, ℕ, ◌<◌, length, map}
use Rattle.rv_tree.specs.Tree.{node_tree}
use Rattle.rv_meaning.specs.{Callings.callee_in, Leading.callee_at}
use Rattle.rv_meaning.proofs.calls.callees_of.Given as goal

abbrev pub invariant-loop-node : goal.invariant-loop-node
invariant-loop-node l = record {
  size : length l.tables ≡ l.node-index;
  each : (k s : ℕ) → k < l.node-index → callee_in l.tables k s ≡ callee_at (map node_tree l.nodes) k s;
}
