use Rattle.std.proofs.{Common.◌<◌, Common.length, Common.arith, lemmas.Int.to_z-of_z}
use Rattle.rv_poly.proofs.trails.fill.Goals as goal

pub advance-requires : goal.advance-requires
advance-requires c =
    let wanted_fits = c.ranges.wanted in
    let room : length c.loop-step.point < c.args.width = (let t = c.if-len-width.false in omega (arith, c.len.ensures)) in
    record { guide = c.requires.guide; wanted = simp to_z-of_z c.requires.wanted; room = room; trail = c.loop-step.invariant }
