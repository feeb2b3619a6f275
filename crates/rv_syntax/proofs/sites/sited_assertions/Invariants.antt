use Rattle.std.proofs.Common.{◌≡◌, ◌++◌, map}
use Rattle.std.specs.Vec.Iter.{into_iter_items}
use Rattle.rv_tree.specs.{Tree.assertion_tree, Sites.numbered_from, Sites.sited_assertion}
use Rattle.rv_syntax.proofs.sites.sited_assertions.Given as goal

abbrev pub invariant-each : goal.invariant-each
invariant-each l =
    map assertion_tree l.made ++ map (sited_assertion (numbered_from l.sites.first l.sites.offsets.items))
    (map assertion_tree (into_iter_items l.assertion-iterator))
    ≡ map (sited_assertion (numbered_from l.fn.sites.first l.fn.sites.offsets.items)) (map assertion_tree l.fn.assertions)
