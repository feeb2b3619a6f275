use Rattle.std.proofs.Common.{◌≡◌, map}
use Rattle.rv_flatten.specs.{NodeReaders.lists_to, Compared.compared_in, Kept.found_comparison}
use Rattle.rv_flatten.proofs.comparisons.found_in_all.Given as goal

abbrev pub invariant-loop-instance : goal.invariant-loop-instance
invariant-loop-instance l = map found_comparison l.found ≡ lists_to (compared_in l.tested l.instances) l.instance-index
