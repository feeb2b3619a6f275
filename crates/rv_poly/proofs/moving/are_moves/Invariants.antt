use Rattle.rv_poly.proofs.MovedLemmas.{AreMovesUpto}
use Rattle.rv_poly.proofs.moving.are_moves.Given as goal

abbrev pub invariant-loop-column : goal.invariant-loop-column
invariant-loop-column l = AreMovesUpto l.updates l.column
