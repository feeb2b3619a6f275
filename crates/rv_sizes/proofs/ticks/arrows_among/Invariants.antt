use Rattle.std.proofs.Common.{◌≡◌, ◌++◌, map, flat_map, drop}
use Rattle.rv_instances.specs.Timed.{operator_listed}
use Rattle.rv_sizes.specs.TickWalk.{arrow_told}
use Rattle.rv_sizes.proofs.ticks.arrows_among.Given as goal

abbrev pub invariant-loop-operator : goal.invariant-loop-operator
invariant-loop-operator l =
    l.found ++ flat_map arrow_told (map operator_listed (drop l.operator-index l.operators)) ≡ flat_map arrow_told (map operator_listed l.operators)
