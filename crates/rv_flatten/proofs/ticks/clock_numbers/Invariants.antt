use Rattle.std.proofs.Common.{◌≡◌}
use Rattle.rv_instances.specs.Expanded.{program_of}
use Rattle.rv_flatten.specs.Arrows.{arrow_numbers_to}
use Rattle.rv_flatten.proofs.ticks.clock_numbers.Given as goal

abbrev pub invariant-loop-instance : goal.invariant-loop-instance
invariant-loop-instance l = l.found ≡ arrow_numbers_to (program_of l.expanded) l.expanded.instances.now l.layout l.instance
