use Rattle.rv_poly.specs.Elimination.{AreFreeTaken}
use Rattle.rv_poly.proofs.eliminate.add_free_rows.Given as goal

abbrev pub invariant-loop-row : goal.invariant-loop-row
invariant-loop-row l = AreFreeTaken l.column l.rows l.row-index l.initial.step l.step
