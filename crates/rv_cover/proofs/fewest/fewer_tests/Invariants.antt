use Rattle.std.proofs.Common.{◌≡◌, ◌+◌, pos, length}
use Rattle.rv_proofs.specs.Ranges.{IsRecord}
use Rattle.rv_cover.proofs.fewest.fewer_tests.Given as goal

abbrev pub invariant-loop-test : goal.invariant-loop-test
invariant-loop-test l = record {
  size : length l.told ≡ length l.initial.told;
  record_least : IsRecord (length l.given + length l.initial.told) l.least;
  one : l.least.divisor ≡ pos 1;
}
