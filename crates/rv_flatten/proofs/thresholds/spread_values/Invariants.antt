use Rattle.std.proofs.Common.{◌≡◌, ◌++◌, flat_map, drop}
use Rattle.rv_flatten.specs.Literals.{around_value}
use Rattle.rv_flatten.proofs.thresholds.spread_values.Given as goal

abbrev pub invariant-each : goal.invariant-each
invariant-each l = l.spread ++ flat_map around_value (drop l.value-index l.values) ≡ l.fn.spread ++ flat_map around_value l.fn.values
