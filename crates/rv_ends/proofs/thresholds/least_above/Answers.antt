use Rattle.std.proofs.{Common.rules, Common.FitsSigned, Common.arith, Common.length, Common.take, Common.◌≡◌, Common.◌<◌, lemmas.Int.to_z-of_z}
use Rattle.std.specs.Int.{w128}
use Rattle.rv_ends.proofs.Rising.{above_more, above_all}
use Rattle.rv_ends.proofs.thresholds.least_above.Goals as goal

pub loop-place-preserved : goal.loop-place-preserved
loop-place-preserved c =
    let value_fits : FitsSigned w128 c.args.value = search rules in
    let here_fits : FitsSigned w128 c.at.result.now = search rules in
    let inside : c.loop-place.place < length c.args.thresholds.now = omega (arith, c.len-place-end.ensures) in
    let before = simp to_z-of_z at c.loop-place.invariant in
    let h = simp to_z-of_z at (c.with_threshold-best.ensures (take c.loop-place.place c.args.thresholds.now) c.loop-place.invariant) in
    simp to_z-of_z (above_more c.args.thresholds.now c.args.value c.at.result.now c.loop-place.place c.with_threshold-best.result inside c.at.ensures.value h)

pub returns : goal.returns
returns c =
    let value_fits : FitsSigned w128 c.args.value = search rules in
    let at_end : c.loop-place.place ≡ length c.args.thresholds.now = omega (arith, c.len-place-end.ensures) in
    let h = simp to_z-of_z at c.loop-place.invariant in
    above_all c.args.thresholds.now c.args.value c.loop-place.place c.loop-place.best at_end h
