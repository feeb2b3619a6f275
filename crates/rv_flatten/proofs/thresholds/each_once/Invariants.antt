use Rattle.rv_flatten.proofs.DistinctNumbers.{IsDistinctSoFar}
use Rattle.rv_flatten.proofs.thresholds.each_once.Given as goal

abbrev pub invariant-each : goal.invariant-each
invariant-each l = IsDistinctSoFar l.sorted l.number-index l.distinct
