use Rattle.std.proofs.{Common.◌≡◌, Common.ℕ, Common.◌<◌, lemmas.Int.to_z-of_z}
use Rattle.rv_rows.specs.Forms.{number}
use Rattle.rv_poly.specs.Closing.{unit_number}
use Rattle.rv_poly.proofs.UnitLemmas.{side-small, unit-added}
use Rattle.rv_poly.proofs.units.add_unit.Goals as goal

pub add_side-requires-clause-side : goal.add_side-requires-clause-side
add_side-requires-clause-side g c =
    let by_fits = c.ranges.by in
    let other_fits = c.ranges.other in
    let numbers : (k : ℕ) → k < c.args.width → number k c.in_ok-side.side ≡ unit_number c.args.first c.args.by c.args.second c.args.other k = simp to_z-of_z at
    c.in_ok-side.ensures.numbers in
    side-small c.args.width c.args.first c.args.second c.args.by c.args.other c.in_ok-side.side c.requires.by c.requires.other c.in_ok-side.ensures.width
    numbers

pub returns : goal.returns
returns g c =
    let by_fits = c.ranges.by in
    let other_fits = c.ranges.other in
    let numbers : (k : ℕ) → k < c.args.width → number k c.in_ok-side.side ≡ unit_number c.args.first c.args.by c.args.second c.args.other k = simp to_z-of_z at
    c.in_ok-side.ensures.numbers in
    unit-added (g.B.Bounding.has c.args.set.now) (g.B.Bounding.shows c.args.set.now) c.args.width c.args.first c.args.second c.args.by c.args.other
    c.in_ok-side.side
    c.args.rows.now c.add_side.new.rows c.requires.by c.requires.other c.in_ok-side.ensures.width numbers c.in_ok-add_side.ensures
