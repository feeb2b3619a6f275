use Rattle.rv_poly.proofs.UnitLemmas.{axis-added}
use Rattle.rv_poly.proofs.units.add_axis.Goals as goal

pub returns : goal.returns
returns g c =
    axis-added (g.B.Bounding.has c.args.set.now) (g.B.Bounding.shows c.args.set.now) c.args.width c.args.first c.args.rows.now c.add_unit.new.rows
    c.add_unit-2.new.rows
    c.in_ok-add_unit.ensures c.in_ok-add_unit-2.ensures
