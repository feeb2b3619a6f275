use Rattle.std.proofs.Common.{◌≡◌, length}
use Rattle.rv_cover.proofs.answers.told_rows.Given as goal

abbrev pub invariant-loop-test : goal.invariant-loop-test
invariant-loop-test l = length l.told ≡ l.test
