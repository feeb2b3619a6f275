use Rattle.std.proofs.Common.{◌≡◌, All, length}
use Rattle.rv_refine.specs.Sides.{IsSmallLimit}
use Rattle.rv_refine.proofs.rising.first_limits.Given as goal

abbrev pub invariant-loop-place : goal.invariant-loop-place
invariant-loop-place l = record {
  size : length l.limits ≡ l._place;
  small : All IsSmallLimit l.limits;
}
