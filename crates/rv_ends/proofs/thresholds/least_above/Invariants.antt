use Rattle.std.proofs.Common.{take}
use Rattle.rv_ends.specs.Thresholds.{IsLeastAbove}
use Rattle.rv_ends.proofs.thresholds.least_above.Given as goal

abbrev pub invariant-loop-place : goal.invariant-loop-place
invariant-loop-place l = IsLeastAbove (take l.place l.thresholds) l.value l.best
