use Rattle.std.proofs.Common.{◌≡◌, ◌++◌, map, drop, List, Option, Some}
use Rattle.rv_tree.specs.Places.{Sites}
use Rattle.rv_flat.specs.{Lists.variable_of, Lists.tick_places, Systems.tick_flows_of}
use Rattle.rv_bits.specs.Tables.{AreTickRefs}
use Rattle.rv_bits.proofs.tables.tick_refs.Given as goal

abbrev pub invariant-loop-variable : goal.invariant-loop-variable
invariant-loop-variable l = record {
  read : (ticks : List (Option Sites)) × AreTickRefs (map variable_of l.variables) l.fn.store l.store ticks l.refs
      × (ticks ++ map (λ p. Some p) (tick_places (drop l.variable-index l.variables)) ≡ tick_flows_of l.variables);
}
