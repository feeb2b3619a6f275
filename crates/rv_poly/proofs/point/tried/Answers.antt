use Rattle.std.proofs.{Common.◌≡◌, Common.length, Common.arith, lemmas.Int.to_z-of_z}
use Rattle.rv_poly.proofs.GuideLemmas.{trail-none}
use Rattle.rv_poly.proofs.point.tried.Goals as goal

pub fill-requires : goal.fill-requires
fill-requires c =
    let wanted_fits = c.ranges.wanted in
    record { guide = c.requires.guide; wanted = simp to_z-of_z c.requires.wanted; trail = rw c.new-point.ensures (trail-none c.args.width) }

pub meets_all-requires : goal.meets_all-requires
meets_all-requires c = record { fits = c.requires.rows; point = c.in_ok-fill.ensures.replay }

pub returns-then-meets_all : goal.returns-then-meets_all
returns-then-meets_all c =
    let whole : length c.fill.new.point ≡ c.args.width = (let t = c.if-len-width.false in omega (arith, c.len.ensures)) in
    record { has = c.meets_all.ensures.holds c.if-meets_all.true; replay = c.in_ok-fill.ensures.replay; size = whole }
