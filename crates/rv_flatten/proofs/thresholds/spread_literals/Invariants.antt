use Rattle.std.proofs.Common.{◌≡◌, ◌++◌, flat_map, drop}
use Rattle.rv_flatten.specs.Literals.{around_literal}
use Rattle.rv_flatten.proofs.thresholds.spread_literals.Given as goal

abbrev pub invariant-each : goal.invariant-each
invariant-each l = l.spread ++ flat_map around_literal (drop l.literal-index l.literals) ≡ l.fn.spread ++ flat_map around_literal l.fn.literals
