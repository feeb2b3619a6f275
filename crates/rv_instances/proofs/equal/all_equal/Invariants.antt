use Rattle.std.proofs.Common.{◌≡◌, replicate}
use Rattle.rv_instances.proofs.equal.all_equal.Given as goal

abbrev pub invariant-loop : goal.invariant-loop
invariant-loop g l = l.all ≡ replicate l.counter l.value
