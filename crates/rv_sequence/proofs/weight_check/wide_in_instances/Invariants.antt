use Rattle.std.proofs.Common.{◌≡◌}
use Rattle.rv_instances.specs.Expanded.{program_of}
use Rattle.rv_sequence.specs.WideNodes.{wide_in_first}
use Rattle.rv_sequence.proofs.weight_check.wide_in_instances.Given as goal

abbrev pub invariant-loop-instance : goal.invariant-loop-instance
invariant-loop-instance l = l.first ≡ wide_in_first (program_of l.expanded) l.expanded.instances.now l.values l.layout l.weights l.instance
