use Rattle.std.proofs.Common.{◌≡◌, ◌+◌, ◌≤◌, map, drop}
use Rattle.rv_control.specs.Control.{state_bits}
use Rattle.rv_flat.specs.Lists.{variable_of}
use Rattle.rv_bits.proofs.following.count_states.Given as goal

abbrev pub invariant-loop-variable : goal.invariant-loop-variable
invariant-loop-variable l = record {
  within : l.count ≤ l.variable-index;
  counted : l.count + state_bits (map variable_of (drop l.variable-index l.variables)) ≡ state_bits (map variable_of l.variables);
}
