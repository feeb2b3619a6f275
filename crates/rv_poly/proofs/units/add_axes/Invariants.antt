use Rattle.rv_poly.specs.Closing.{AreAxesAdded}
use Rattle.rv_poly.proofs.units.add_axes.Given as goal

abbrev pub invariant-loop-first : goal.invariant-loop-first
invariant-loop-first g l = AreAxesAdded (g.B.Bounding.has l.set) (g.B.Bounding.shows l.set) l.width l.first l.initial.rows l.rows
