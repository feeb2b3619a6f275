use Rattle.std.proofs.Common.{◌≡◌, ◌++◌, map, drop}
use Rattle.rv_tree.specs.Tree.{node_tree}
use Rattle.rv_types.specs.Instances.{calls}
use Rattle.rv_calls.specs.Callings.{callings}
use Rattle.rv_calls.proofs.calls.calls_of.Given as goal

abbrev pub invariant-loop-node : goal.invariant-loop-node
invariant-loop-node l =
    l.table ++ map (λ n. callings l.names (calls n)) (map node_tree (drop l.node-index l.p.nodes))
    ≡ map (λ n. callings l.names (calls n)) (map node_tree l.p.nodes)
