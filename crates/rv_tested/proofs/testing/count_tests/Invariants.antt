use Rattle.std.proofs.Common.{◌≡◌, ◌≤◌, ◌+◌, map, drop}
use Rattle.rv_flat.specs.Lists.{variable_of}
use Rattle.rv_control.specs.Control.{order_tests}
use Rattle.rv_tested.proofs.testing.count_tests.Given as goal

abbrev pub invariant-loop-variable : goal.invariant-loop-variable
invariant-loop-variable l = record {
  counted : l.count + order_tests (map variable_of (drop l.variable-index l.variables)) ≡ order_tests (map variable_of l.variables);
  most : l.count ≤ l.variable-index;
}
