use Rattle.std.proofs.Common.{◌≡◌, map, take}
use Rattle.rv_types.specs.Lists.{sites_of}
use Rattle.rv_instances.specs.Flowing.{flow_places, place_at}
use Rattle.rv_instances.proofs.flows.places_of.Given as goal

abbrev pub invariant-loop-number : goal.invariant-loop-number
invariant-loop-number l = sites_of l.places ≡ map (place_at (flow_places l.instances l.flows)) (take l.number-index l.numbers)
