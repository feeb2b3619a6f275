use Rattle.std.proofs.Common.{◌≡◌, ◌+◌, length, All}
use Rattle.rv_proofs.specs.Ranges.{IsRecord}
use Rattle.rv_cover.proofs.fewest.fewer_reached.Given as goal

abbrev pub invariant-loop-test : goal.invariant-loop-test
invariant-loop-test l = record {
  size : length l.told ≡ length l.initial.told;
  records : All (IsRecord (length l.given + length l.initial.told)) l.least;
}
