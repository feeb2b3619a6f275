use Rattle.std.proofs.Common.{◌≡◌, map, take}
use Rattle.rv_instances.specs.Expanded.{program_of}
use Rattle.rv_sequence.specs.Needed.{giver_needed}
use Rattle.rv_sequence.proofs.flow_graph.flow_graph.Given as goal

abbrev pub invariant-loop-giver : goal.invariant-loop-giver
invariant-loop-giver l = l.graph ≡ map (giver_needed (program_of l.expanded) l.expanded.instances.now l.layout) (take l.giver-index l.givers)
