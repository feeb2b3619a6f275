use Rattle.std.proofs.Common.{map, ap, ◌∙◌}
use Rattle.rv_instances.specs.{Expanded.program_of, Expanded.main_of, Flowing.flow_places, Flowing.place_at}
use Rattle.rv_sequence.proofs.Numbered.{numbers_within, sequenced}
use Rattle.rv_sequence.proofs.sequencing.sequence_by_givers.Goals as goal

pub places_of-requires-clause-numbers : goal.places_of-requires-clause-numbers
places_of-requires-clause-numbers c k w =
    let x = c.args.expanded.now in
    numbers_within (program_of x) (main_of x) x.instances.now c.in_ok-flows.flows c.in-Ok.numbers c.as_slice.result.now k c.in_ok-flows.ensures.flows
    c.in-Ok.ensures.numbered c.as_slice.ensures w

pub returns-clause-sequence : goal.returns-clause-sequence
returns-clause-sequence c =
    let x = c.args.expanded.now in
    sequenced (program_of x) (main_of x) x.instances.now c.in_ok-flows.flows c.in-Ok.numbers c.in_ok-places.places c.in_ok-flows.ensures.flows
    c.in-Ok.ensures.numbered c.in-Ok-check_light.ensures.light
    (c.in_ok-places.ensures ∙ ap (map (place_at (flow_places x.instances.now c.in_ok-flows.flows))) c.as_slice.ensures)
