use Rattle.std.proofs.Common.{◌≡◌, take}
use Rattle.rv_pairs.proofs.labels.copied.Given as goal

abbrev pub invariant-loop-place : goal.invariant-loop-place
invariant-loop-place l = l.all ≡ take l.place l.labels
