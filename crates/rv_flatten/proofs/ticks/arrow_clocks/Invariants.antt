use Rattle.std.proofs.Common.{◌≡◌, ◌++◌, map, flat_map, drop}
use Rattle.rv_instances.specs.Timed.{ToldOperator, operator_listed}
use Rattle.rv_flatten.specs.Arrows.{arrow_of}
use Rattle.rv_flatten.proofs.ticks.arrow_clocks.Given as goal

abbrev pub invariant-loop-operator : goal.invariant-loop-operator
invariant-loop-operator l =
    l.found ++ flat_map (λ (o : ToldOperator). arrow_of o.operator o.clock) (map operator_listed (drop l.operator-index l.operator-items))
    ≡ flat_map (λ (o : ToldOperator). arrow_of o.operator o.clock) (map operator_listed l.operator-items)
