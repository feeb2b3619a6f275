use Rattle.std.proofs.Common.{◌≡◌, ◌++◌, map, drop}
use Rattle.rv_tree.specs.{Tree.assertion_tree, Sites.assertion_offsets}
use Rattle.rv_syntax.proofs.sites.collect_assertions.Given as goal

abbrev pub invariant-each : goal.invariant-each
invariant-each l =
    l.offsets.items ++ assertion_offsets (map assertion_tree (drop l.assertion-index l.assertions)) ≡ l.fn.offsets.items
    ++ assertion_offsets (map assertion_tree l.fn.assertions)
