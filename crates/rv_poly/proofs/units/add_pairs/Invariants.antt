use Rattle.rv_poly.specs.Closing.{ArePairsAdded}
use Rattle.rv_poly.proofs.units.add_pairs.Given as goal

abbrev pub invariant-loop-second : goal.invariant-loop-second
invariant-loop-second g l = ArePairsAdded (g.B.Bounding.has l.set) (g.B.Bounding.shows l.set) l.width l.first l.second l.initial.rows l.rows
