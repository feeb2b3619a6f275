use Rattle.std.proofs.Common.{◌≡◌, take}
use Rattle.rv_ends.proofs.sides.copied.Given as goal

abbrev pub invariant-loop-place : goal.invariant-loop-place
invariant-loop-place l = l.parts ≡ take l.place l.side.end.parts
