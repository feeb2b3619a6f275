use Rattle.std.proofs.Common.{◌≡◌, ◌+◌, ◌≤◌, map, drop, Some}
use Rattle.rv_control.specs.Control.{tick_index}
use Rattle.rv_flat.specs.{Lists.tick_places, Systems.tick_flows_of}
use Rattle.rv_bits.proofs.following.tick_number.Given as goal

abbrev pub invariant-loop-variable : goal.invariant-loop-variable
invariant-loop-variable l = record {
  within : l.count ≤ l.variable-index + 1;
  counted : l.count + tick_index (map (λ q. Some q) (tick_places (drop l.variable-index l.variables))) (Some l.place.sites) ≡ tick_index
      (tick_flows_of l.variables) (Some l.place.sites);
}
