use Rattle.rv_poly.specs.Befores.{CanGoBack, IsEarlier}
use Rattle.rv_poly.specs.Carried.{AreCarried}
use Rattle.rv_poly.proofs.before.rows_before.Given as goal

abbrev pub invariant-loop-row : goal.invariant-loop-row
invariant-loop-row l = AreCarried (CanGoBack l.updates) (IsEarlier l.updates) l.rows l.row-index l.new
