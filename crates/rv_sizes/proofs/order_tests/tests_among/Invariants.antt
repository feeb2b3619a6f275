use Rattle.std.proofs.Common.{◌≡◌, ◌+◌, ◌≤◌, map, drop}
use Rattle.rv_types.specs.{Readings.view_of, Tables.scope_of, Variables.total}
use Rattle.rv_instances.specs.Timed.{operator_listed}
use Rattle.rv_sizes.specs.{Tests.tests_told, Capped.capped}
use Rattle.rv_base.specs.Limits.{heaviest}
use Rattle.rv_sizes.proofs.order_tests.tests_among.Given as goal

abbrev pub invariant-loop-operator : goal.invariant-loop-operator
invariant-loop-operator l = record {
  bound : l.sum ≤ heaviest;
  sum : capped (l.sum + total (tests_told (scope_of (view_of l.tables l.node))) (map operator_listed (drop l.operator-index l.operators))) ≡ capped
      (total (tests_told (scope_of (view_of l.tables l.node))) (map operator_listed l.operators));
}
