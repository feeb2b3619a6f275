use Rattle.std.proofs.Common.{◌≡◌, ◌++◌, map, drop}
use Rattle.rv_types.specs.Lists.{test_variables}
use Rattle.rv_flatten.specs.Kept.{found_comparison}
use Rattle.rv_flat.specs.Lists.{variable_of}
use Rattle.rv_flatten.proofs.variables.add_tests.Given as goal

abbrev pub invariant-loop-comparison : goal.invariant-loop-comparison
invariant-loop-comparison l =
    map variable_of l.bits ++ test_variables (map found_comparison (drop l.comparison-index l.comparisons))
    ≡ map variable_of l.initial.bits ++ test_variables (map found_comparison l.comparisons)
