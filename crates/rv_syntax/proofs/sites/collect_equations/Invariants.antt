use Rattle.std.proofs.Common.{◌≡◌, ◌++◌, map, drop}
use Rattle.rv_tree.specs.{Tree.equation_tree, Sites.equation_offsets}
use Rattle.rv_syntax.proofs.sites.collect_equations.Given as goal

abbrev pub invariant-each : goal.invariant-each
invariant-each l =
    l.offsets.items ++ equation_offsets (map equation_tree (drop l.equation-index l.equations)) ≡ l.fn.offsets.items
    ++ equation_offsets (map equation_tree l.fn.equations)
