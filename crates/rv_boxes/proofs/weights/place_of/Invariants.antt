use Rattle.std.proofs.Common.{◌<◌, take, All}
use Rattle.rv_boxes.proofs.weights.place_of.Given as goal

abbrev pub invariant-loop-place : goal.invariant-loop-place
invariant-loop-place l = All (λ u. u.premise < l.premise) (take l.place l.weights)
