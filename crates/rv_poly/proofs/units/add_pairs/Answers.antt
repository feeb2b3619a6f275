use Rattle.std.proofs.Common.{◌≡◌, arith}
use Rattle.rv_poly.proofs.UnitLemmas.{pairs-none, pairs-more}
use Rattle.rv_poly.proofs.units.add_pairs.Goals as goal

pub loop-second-init : goal.loop-second-init
loop-second-init g c = pairs-none (g.B.Bounding.has c.args.set.now) (g.B.Bounding.shows c.args.set.now) c.args.width c.args.first c.args.rows.now

pub loop-second-preserved : goal.loop-second-preserved
loop-second-preserved g c =
    pairs-more (g.B.Bounding.has c.args.set.now) (g.B.Bounding.shows c.args.set.now) c.args.width c.args.first c.loop-second.second c.args.rows.now
    c.loop-second.rows c.add_pair.new.rows
    c.loop-second.invariant c.in_ok-add_pair.ensures

pub returns : goal.returns
returns g c =
    let inside = c.requires.first in
    let last = c.loop-second.auto.second-end (omega arith) in
    let past = c.loop-second-test.false in
    let e : c.loop-second.second ≡ c.args.width = omega arith in
    rw e at c.loop-second.invariant
