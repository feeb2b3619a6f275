use Rattle.rv_poly.specs.Elimination.{AreRowsPaired}
use Rattle.rv_poly.proofs.eliminate.add_all_pairs.Given as goal

abbrev pub invariant-loop-row : goal.invariant-loop-row
invariant-loop-row l = AreRowsPaired l.column l.rows l.row-index l.initial.step l.step
