use Rattle.rv_poly.specs.Whole.{IsCandidate}
use Rattle.rv_poly.proofs.point.candidate.Given as goal

abbrev pub invariant-loop-column : goal.invariant-loop-column
invariant-loop-column l = IsCandidate l.rows l.column l.point
