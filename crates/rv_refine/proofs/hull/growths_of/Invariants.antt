use Rattle.std.proofs.Common.{◌≡◌, length}
use Rattle.rv_refine.specs.Sides.{AreIncrements}
use Rattle.rv_refine.proofs.hull.growths_of.Given as goal

abbrev pub invariant-loop-place : goal.invariant-loop-place
invariant-loop-place l = record {
  small : AreIncrements l.growths;
  many : length l.growths ≡ l.place;
}
