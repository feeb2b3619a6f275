use Rattle.std.proofs.Common.{◌≡◌, ◌++◌, map, flat_map, drop}
use Rattle.rv_agreement.specs.Valuations.{item_comparisons}
use Rattle.rv_flat.specs.{FlatInstants.system_of, Systems.flow_item}
use Rattle.rv_tested.specs.Compared.{comparison_in}
use Rattle.rv_tested.proofs.compared.gather_flows.Given as goal

abbrev pub invariant-loop-flow : goal.invariant-loop-flow
invariant-loop-flow l =
    map (comparison_in l.flat.memories) l.found
    ++ flat_map (item_comparisons (system_of l.flat).flows) (map (flow_item l.flat.memories) (drop l.flow-index l.flat.flows))
    ≡ map (comparison_in l.flat.memories) l.fn.found
    ++ flat_map (item_comparisons (system_of l.flat).flows) (map (flow_item l.flat.memories) l.flat.flows)
