use Rattle.std.proofs.Common.{◌≡◌, All, length}
use Rattle.rv_refine.specs.Sides.{AreLimits}
use Rattle.rv_refine.proofs.rising.begun.Given as goal

abbrev pub invariant-loop-place : goal.invariant-loop-place
invariant-loop-place l = record {
  reached : length l.reached ≡ l.place;
  dirty : length l.dirty ≡ l.place;
  limits : length l.limits ≡ l.place;
  each : All (AreLimits (length l.frame.sides)) l.limits;
}
