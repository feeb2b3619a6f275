use Rattle.std.proofs.Common.{◌≡◌, ◌++◌, map, drop}
use Rattle.rv_tree.specs.Tree.{constant_tree}
use Rattle.rv_flatten.specs.Literals.{constant_literals}
use Rattle.rv_flatten.proofs.thresholds.add_constants.Given as goal

abbrev pub invariant-each : goal.invariant-each
invariant-each l = l.found ++ constant_literals (map constant_tree (drop l.constant-index l.constants)) ≡ l.fn.found
    ++ constant_literals (map constant_tree l.fn.constants)
