use Rattle.std.proofs.Common.{◌≡◌, ℕ, ◌<◌, ◌+ℤ◌}
use Rattle.rv_rows.specs.{Rows.coefficient, Forms.number}
use Rattle.rv_pairs.proofs.showing.misses.Given as goal

abbrev pub invariant-loop-column : goal.invariant-loop-column
invariant-loop-column l = (k : ℕ) → k < l.column → number k l.numbers ≡ coefficient k l.one +ℤ coefficient k l.other
