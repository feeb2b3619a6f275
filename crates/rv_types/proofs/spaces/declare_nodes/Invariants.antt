use Rattle.std.proofs.Common.{◌≡◌, drop, map}
use Rattle.rv_types.specs.{Names.repeated, Firsts.firsts_after, Earliest.first, Earliest.sooner}
use Rattle.rv_tree.specs.Tree.{node_tree}
use Rattle.rv_types.proofs.spaces.declare_nodes.Given as goal

abbrev pub invariant-loop-node : goal.invariant-loop-node
invariant-loop-node l = record {
  space : firsts_after l.space (map (λ n. n.name) (map node_tree (drop l.node-index l.nodes))) ≡ firsts_after l.initial.space
      (map (λ n. n.name) (map node_tree l.nodes));
  fault : sooner l.fault (first (repeated l.space (map (λ n. n.name) (map node_tree (drop l.node-index l.nodes))))) ≡ first
      (repeated l.initial.space (map (λ n. n.name) (map node_tree l.nodes)));
}
