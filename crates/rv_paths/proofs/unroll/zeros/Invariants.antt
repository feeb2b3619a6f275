use Rattle.std.proofs.Common.{◌≡◌, length}
use Rattle.rv_paths.proofs.unroll.zeros.Given as goal

abbrev pub invariant-loop-column : goal.invariant-loop-column
invariant-loop-column l = length l.numbers.items ≡ l._column
