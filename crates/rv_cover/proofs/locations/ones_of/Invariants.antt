use Rattle.std.proofs.Common.{◌≡◌, ℕ, ◌<◌, length, Some, slice_get}
use Rattle.rv_proofs.specs.Samples.{by_one}
use Rattle.rv_cover.proofs.locations.ones_of.Given as goal

abbrev pub invariant-loop-place : goal.invariant-loop-place
invariant-loop-place l = record {
  size : length l.list ≡ l.place;
  each : (n : ℕ) → n < l.place → slice_get l.list n ≡ Some (by_one n);
}
