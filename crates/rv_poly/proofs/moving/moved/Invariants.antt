use Rattle.rv_poly.specs.Moves.{AreMoved}
use Rattle.rv_poly.proofs.moving.moved.Given as goal

abbrev pub invariant-loop-row : goal.invariant-loop-row
invariant-loop-row l = AreMoved l.updates l.rows l.row-index l.new
