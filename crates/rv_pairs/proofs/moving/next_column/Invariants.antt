use Rattle.std.proofs.Common.{◌≡◌, ℕ, ◌<◌, ◌≤◌, pos}
use Rattle.rv_rows.specs.Forms.{number}
use Rattle.rv_pairs.proofs.moving.next_column.Given as goal

abbrev pub invariant-loop-column : goal.invariant-loop-column
invariant-loop-column l = (k : ℕ) → l.first ≤ k → k < l.column → number k l.numbers ≡ pos 0
