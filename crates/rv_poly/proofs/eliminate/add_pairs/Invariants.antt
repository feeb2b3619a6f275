use Rattle.rv_poly.specs.Elimination.{ArePairsTaken}
use Rattle.rv_poly.proofs.eliminate.add_pairs.Given as goal

abbrev pub invariant-loop-other : goal.invariant-loop-other
invariant-loop-other l = ArePairsTaken l.column l.positive l.rows l.other-index l.initial.step l.step
