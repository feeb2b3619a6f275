use Rattle.std.proofs.Common.{◌≡◌, ◌+ℤ◌, drop}
use Rattle.rv_rows.specs.Multipliers.{weighted}
use Rattle.rv_seek.proofs.seek.sum_of.Given as goal

abbrev pub invariant-loop-weight : goal.invariant-loop-weight
invariant-loop-weight l = l.sum +ℤ weighted (λ r. r.bound) l.premises (drop l.weight-index l.multipliers.weights) ≡ weighted (λ r. r.bound) l.premises
    l.multipliers.weights
