use Rattle.std.proofs.Common.{◌≡◌, All, length}
use Rattle.rv_poly.specs.Whole.{IsInReplay}
use Rattle.rv_paths.proofs.points.inputs_of.Given as goal

abbrev pub invariant-loop-instant : goal.invariant-loop-instant
invariant-loop-instant l = record {
  count : length l.all ≡ l.instant;
  sizes : All (λ numbers. length numbers ≡ l.inputs) l.all;
  replay : All (All IsInReplay) l.all;
}
