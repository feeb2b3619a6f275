use Rattle.rv_split.specs.Partitions.{IsPartition}
use Rattle.rv_tests.proofs.partitions.told_splits.Given as goal

abbrev pub invariant-loop-part : goal.invariant-loop-part
invariant-loop-part l = IsPartition l.store.variables l.partition
