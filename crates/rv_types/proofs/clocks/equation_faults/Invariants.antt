use Rattle.std.proofs.Common.{◌≡◌, map, take, flat_map}
use Rattle.rv_types.specs.{Earliest.first, Clocks.equation_clocks}
use Rattle.rv_tree.specs.Tree.{node_tree, equation_tree}
use Rattle.rv_types.proofs.clocks.equation_faults.Given as goal

abbrev pub invariant-loop-equation : goal.invariant-loop-equation
invariant-loop-equation l = l.fault ≡ first (flat_map (equation_clocks (node_tree l.timing.node.now)) (map equation_tree (take l.equation-index l.equations)))
