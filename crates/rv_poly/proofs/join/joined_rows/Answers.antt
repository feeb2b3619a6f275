use Rattle.rv_poly.proofs.ClosingLemmas.{closing-two}
use Rattle.rv_poly.proofs.join.joined_rows.Goals as goal

pub returns : goal.returns
returns g c =
    closing-two (g.B.Bounding.has c.args.set.now) (g.B.Bounding.shows c.args.set.now) c.args.first.now c.args.second.now c.add_sides.new.rows
    c.add_sides-2.new.rows c.add_units.new.rows c.args.width
    (rw c.new-rows.ensures at c.in_ok-add_sides.ensures) c.in_ok-add_sides-2.ensures c.in_ok-add_units.ensures
