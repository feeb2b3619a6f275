use Rattle.std.proofs.Common.{◌≡◌, take, count_by}
use Rattle.rv_invariant.specs.Shapes.{is_test}
use Rattle.rv_invariant.proofs.counts.count_tests.Given as goal

abbrev pub invariant-loop-variable : goal.invariant-loop-variable
invariant-loop-variable l = l.count ≡ count_by is_test (take l.variable-index l.variables)
