use Rattle.std.proofs.Common.{◌≡◌, ℕ, ◌<◌, [], length, map, get_or}
use Rattle.rv_tree.specs.Tree.{node_tree}
use Rattle.rv_types.specs.Instances.{no_node}
use Rattle.rv_meaning.specs.Remembered.{AreSites}
use Rattle.rv_meaning.proofs.memory_list.sites_of_nodes.Given as goal

abbrev pub invariant-loop-node : goal.invariant-loop-node
invariant-loop-node l = record {
  size : length l.sites ≡ l.node-index;
  each : (k : ℕ) → k < l.node-index → AreSites (get_or (map node_tree l.nodes) k no_node) (get_or l.sites k []);
}
