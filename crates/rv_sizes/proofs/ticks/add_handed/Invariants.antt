use Rattle.std.proofs.Common.{◌≡◌, ◌++◌, map, flat_map, drop}
use Rattle.rv_instances.specs.Expanded.{told}
use Rattle.rv_sizes.specs.TickWalk.{handed_told, ticks_on_base}
use Rattle.rv_sizes.proofs.ticks.add_handed.Given as goal

abbrev pub invariant-loop-call : goal.invariant-loop-call
invariant-loop-call l =
    l.found ++ flat_map (handed_told (ticks_on_base l.names l.bases)) (map told (drop l.call-index l.calls))
    ≡ l.initial.found ++ flat_map (handed_told (ticks_on_base l.names l.bases)) (map told l.calls)
