use Rattle.std.proofs.Common.{◌≡◌, ◌++◌, map, drop}
use Rattle.rv_tree.specs.Tree.{assertion_tree}
use Rattle.rv_flatten.specs.Literals.{assertion_literals}
use Rattle.rv_flatten.proofs.thresholds.add_assertions.Given as goal

abbrev pub invariant-each : goal.invariant-each
invariant-each l = l.found ++ assertion_literals (map assertion_tree (drop l.assertion-index l.assertions)) ≡ l.fn.found
    ++ assertion_literals (map assertion_tree l.fn.assertions)
