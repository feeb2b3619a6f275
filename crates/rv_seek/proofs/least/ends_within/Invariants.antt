use Rattle.std.proofs.Common.{◌≡◌, ◌<◌, ◌≤◌, ℕ, pos}
use Rattle.rv_rows.specs.Forms.{number}
use Rattle.rv_seek.proofs.least.ends_within.Given as goal

abbrev pub invariant-loop-column : goal.invariant-loop-column
invariant-loop-column l = (k : ℕ) → l.width ≤ k → k < l.column → number k l.wanted ≡ pos 0
