use Rattle.std.proofs.Common.{◌≡◌, map, drop}
use Rattle.rv_tree.specs.Tree.{tree_of, trees, node_tree}
use Rattle.rv_types.specs.{Parts.faults_of_all, Clocks.meet, Clocks.own_clash, Earliest.first, Earliest.sooner}
use Rattle.rv_types.specs.Clocks as clocking
use Rattle.rv_types.proofs.pacing.+pace.Given as goal

abbrev pub invariant-pace_of_all-loop-e : goal.invariant-pace_of_all-loop-e
invariant-pace_of_all-loop-e l = record {
  pace : meet l.found.pace (clocking.pace_of_all (node_tree l.timing.node.now) (trees (map tree_of (drop l.e-index l.es)))) ≡ clocking.pace_of_all
      (node_tree l.timing.node.now) (trees (map tree_of l.es));
  fault : sooner l.found.fault (first (faults_of_all (own_clash (node_tree l.timing.node.now)) (trees (map tree_of (drop l.e-index l.es))))) ≡ first
      (faults_of_all (own_clash (node_tree l.timing.node.now)) (trees (map tree_of l.es)));
}
