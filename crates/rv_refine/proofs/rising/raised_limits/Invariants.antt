use Rattle.std.proofs.Common.{◌≡◌, All, length}
use Rattle.rv_refine.specs.Sides.{IsSmallLimit}
use Rattle.rv_refine.proofs.rising.raised_limits.Given as goal

abbrev pub invariant-loop-place : goal.invariant-loop-place
invariant-loop-place l = record {
  same : l.store ≡ l.fn.store;
  size : length l.list ≡ l.place;
  small : All IsSmallLimit l.list;
}
