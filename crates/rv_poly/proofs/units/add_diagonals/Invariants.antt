use Rattle.rv_poly.specs.Closing.{AreDiagonalsAdded}
use Rattle.rv_poly.proofs.units.add_diagonals.Given as goal

abbrev pub invariant-loop-first : goal.invariant-loop-first
invariant-loop-first g l = AreDiagonalsAdded (g.B.Bounding.has l.set) (g.B.Bounding.shows l.set) l.width l.first l.initial.rows l.rows
