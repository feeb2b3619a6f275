use Rattle.std.proofs.Common.{◌≡◌, map, take, flat_map}
use Rattle.rv_types.specs.{Earliest.first, Clocks.assertion_clocks}
use Rattle.rv_tree.specs.Tree.{node_tree, assertion_tree}
use Rattle.rv_types.proofs.clocks.assertion_faults.Given as goal

abbrev pub invariant-loop-assertion : goal.invariant-loop-assertion
invariant-loop-assertion l = l.fault ≡ first (flat_map (assertion_clocks (node_tree l.timing.node.now))
    (map assertion_tree (take l.assertion-index l.assertions)))
