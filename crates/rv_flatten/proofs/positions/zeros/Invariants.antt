use Rattle.std.proofs.Common.{◌≡◌, replicate}
use Rattle.rv_flatten.proofs.positions.zeros.Given as goal

abbrev pub invariant-loop : goal.invariant-loop
invariant-loop l = l.all ≡ replicate l.counter 0
