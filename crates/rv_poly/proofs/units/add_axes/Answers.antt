use Rattle.rv_poly.proofs.UnitLemmas.{axes-none, axes-more}
use Rattle.rv_poly.proofs.units.add_axes.Goals as goal

pub loop-first-init : goal.loop-first-init
loop-first-init g c = axes-none (g.B.Bounding.has c.args.set.now) (g.B.Bounding.shows c.args.set.now) c.args.width c.args.rows.now

pub loop-first-preserved : goal.loop-first-preserved
loop-first-preserved g c =
    axes-more (g.B.Bounding.has c.args.set.now) (g.B.Bounding.shows c.args.set.now) c.args.width c.loop-first.first c.args.rows.now c.loop-first.rows
    c.add_axis.new.rows
    c.loop-first.invariant c.in_ok-add_axis.ensures
