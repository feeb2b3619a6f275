use Rattle.rv_tree.specs.Tree.{program_tree}
use Rattle.rv_sizes.specs.TickWalk.{AreTicked}
use Rattle.rv_sizes.proofs.ticks.ticks_of.Given as goal

abbrev pub invariant-loop-node : goal.invariant-loop-node
invariant-loop-node l = AreTicked (program_tree l.p) l.nodes.order l.node-index l.ticks.bases l.ticks.own
