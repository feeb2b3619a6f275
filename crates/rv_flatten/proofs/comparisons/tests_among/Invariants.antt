use Rattle.std.proofs.Common.{◌≡◌, ◌++◌, map, flat_map, drop}
use Rattle.rv_instances.specs.Timed.{operator_listed}
use Rattle.rv_flatten.specs.{NodeReaders.scope_read, Compared.is_told_test, Compared.own_test}
use Rattle.rv_flatten.proofs.comparisons.tests_among.Given as goal

abbrev pub invariant-loop-one : goal.invariant-loop-one
invariant-loop-one l =
    l.found ++ flat_map (own_test (is_told_test (scope_read l.reader))) (map operator_listed (drop l.one-index l.operators))
    ≡ flat_map (own_test (is_told_test (scope_read l.reader))) (map operator_listed l.operators)
