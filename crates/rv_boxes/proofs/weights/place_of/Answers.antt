use Rattle.std.proofs.{Common.◌<◌, Common.length, Common.arith, Common.pos, lemmas.List.Elements.All-more, lemmas.Option.get_or_from_slice_get}
use Rattle.rv_rows.specs.declared.farkas.Weight.{Weight}
use Rattle.rv_boxes.proofs.WeightLemmas.{rises_after}
use Rattle.rv_boxes.proofs.weights.place_of.Goals as goal

pub returns-then-at-premise-clause-after : goal.returns-then-at-premise-clause-after
returns-then-at-premise-clause-after c =
    let d : Weight = record { premise = 0; by = pos 0 } in
    let inside : c.loop-place.place < length c.args.weights.now = omega (arith, c.len-place-end.ensures) in
    let e = get_or_from_slice_get c.args.weights.now c.loop-place.place c.at.result.now d c.at.ensures.value in
    rises_after c.args.weights.now c.loop-place.place c.args.premise d c.requires inside (rw e c.if-at-premise.true)

pub loop-place-preserved : goal.loop-place-preserved
loop-place-preserved c =
    let d : Weight = record { premise = 0; by = pos 0 } in
    let inside : c.loop-place.place < length c.args.weights.now = omega (arith, c.len-place-end.ensures) in
    let e = get_or_from_slice_get c.args.weights.now c.loop-place.place c.at.result.now d c.at.ensures.value in
    All-more (λ u. u.premise < c.args.premise) c.args.weights.now c.loop-place.place d inside c.loop-place.invariant (rw e c.if-at-premise.false)
