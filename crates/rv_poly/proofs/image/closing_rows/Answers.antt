use Rattle.rv_poly.proofs.ClosingLemmas.{closing-one}
use Rattle.rv_poly.proofs.image.closing_rows.Goals as goal

pub returns : goal.returns
returns g c =
    closing-one (g.B.Bounding.has c.args.set.now) (g.B.Bounding.shows c.args.set.now) c.args.sides.now c.add_sides.new.rows c.add_units.new.rows
    c.args.width (rw c.new-rows.ensures at c.in_ok-add_sides.ensures) c.in_ok-add_units.ensures
