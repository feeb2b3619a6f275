use Rattle.rv_poly.proofs.UnitLemmas.{units-made}
use Rattle.rv_poly.proofs.units.add_units.Goals as goal

pub returns : goal.returns
returns g c =
    units-made (g.B.Bounding.has c.args.set.now) (g.B.Bounding.shows c.args.set.now) c.args.width c.args.rows.now c.add_axes.new.rows c.add_diagonals.new.rows
    c.in_ok-add_axes.ensures c.in_ok-add_diagonals.ensures
