use Rattle.std.proofs.Common.{◌<◌, length, get_or, ◌∙◌, arith}
use Rattle.std.proofs.{lemmas.List.Elements.Contains-get_or, lemmas.Option.get_or_from_slice_get}
use Rattle.rv_instances.specs.Flowing.{place_at, flow_places}
use Rattle.rv_instances.proofs.Placed.{placed_more, placed_at}
use Rattle.rv_instances.proofs.flows.places_of.Goals as goal

pub at-requires : goal.at-requires
at-requires c = c.requires.numbers (get_or c.args.numbers.now c.loop-number.number-index 0)
    (Contains-get_or c.args.numbers.now c.loop-number.number-index 0 (omega arith))

pub place_of-requires : goal.place_of-requires
place_of-requires c =
    let k = get_or c.args.numbers.now c.loop-number.number-index 0 in
    let lt : k < length c.args.flows.now = c.requires.numbers k (Contains-get_or c.args.numbers.now c.loop-number.number-index 0 (omega arith)) in
    c.requires.instances c.at.result.now (k, lt, get_or_from_slice_get c.args.flows.now k c.at.result.now c.at.result.now c.at.ensures.value)

pub loop-number-preserved : goal.loop-number-preserved
loop-number-preserved c =
    let k = get_or c.args.numbers.now c.loop-number.number-index 0 in
    let lt : k < length c.args.flows.now = c.requires.numbers k (Contains-get_or c.args.numbers.now c.loop-number.number-index 0 (omega arith)) in
    placed_more (place_at (flow_places c.args.instances.now c.args.flows.now)) c.args.numbers.now c.loop-number.places c.push.new.self
    c.loop-number.number-index c.in_ok-place_of.field-0 (omega arith)
    c.loop-number.invariant c.in_ok-push.ensures.ok
    (c.in_ok-place_of.ensures ∙ placed_at c.args.instances.now c.args.flows.now k c.at.result.now c.at.ensures.value lt)
