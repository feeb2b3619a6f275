use Rattle.std.proofs.Common.{◌≡◌, All, length}
use Rattle.rv_poly.specs.Whole.{IsInReplay}
use Rattle.rv_paths.proofs.points.part_of.Given as goal

abbrev pub invariant-loop-column : goal.invariant-loop-column
invariant-loop-column l = record {
  size : length l.numbers ≡ l.column;
  replay : All IsInReplay l.numbers;
}
