use Rattle.rv_instances.specs.Expanded.{program_of, main_of}
use Rattle.rv_sequence.specs.WeightTables.{AreFirstWeights}
use Rattle.rv_sequence.proofs.flow_weights.flow_weights.Given as goal

abbrev pub invariant-loop-number : goal.invariant-loop-number
invariant-loop-number l = AreFirstWeights (program_of l.expanded) (main_of l.expanded) l.expanded.instances.now l.sequence l.number-index l.weights
