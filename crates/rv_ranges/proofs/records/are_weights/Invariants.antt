use Rattle.std.specs.List.{AllWithin}
use Rattle.rv_seek.specs.Pairs.{WeightInRange}
use Rattle.rv_ranges.proofs.records.are_weights.Given as goal

abbrev pub invariant-loop-weight : goal.invariant-loop-weight
invariant-loop-weight l = AllWithin (WeightInRange l.premises) l.weights 0 l.weight-index
