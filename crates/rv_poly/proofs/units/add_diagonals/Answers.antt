use Rattle.rv_poly.proofs.UnitLemmas.{diagonals-none, diagonals-more}
use Rattle.rv_poly.proofs.units.add_diagonals.Goals as goal

pub loop-first-init : goal.loop-first-init
loop-first-init g c = diagonals-none (g.B.Bounding.has c.args.set.now) (g.B.Bounding.shows c.args.set.now) c.args.width c.args.rows.now

pub loop-first-preserved : goal.loop-first-preserved
loop-first-preserved g c =
    diagonals-more (g.B.Bounding.has c.args.set.now) (g.B.Bounding.shows c.args.set.now) c.args.width c.loop-first.first c.args.rows.now c.loop-first.rows
    c.add_pairs.new.rows
    c.loop-first.invariant c.in_ok-add_pairs.ensures
