use Rattle.std.proofs.Common.{◌≡◌, length}
use Rattle.rv_paths.proofs.unroll.unrolled.Given as goal

abbrev pub invariant-loop-column : goal.invariant-loop-column
invariant-loop-column l = length l.sums.items ≡ l.width
