use Rattle.std.proofs.Common.{◌≡◌, ◌++◌, map}
use Rattle.std.specs.Vec.Iter.{into_iter_items}
use Rattle.rv_tree.specs.{Tree.equation_tree, Sites.numbered_from, Sites.sited_equation}
use Rattle.rv_syntax.proofs.sites.sited_equations.Given as goal

abbrev pub invariant-each : goal.invariant-each
invariant-each l =
    map equation_tree l.made ++ map (sited_equation (numbered_from l.sites.first l.sites.offsets.items))
    (map equation_tree (into_iter_items l.equation-iterator))
    ≡ map (sited_equation (numbered_from l.fn.sites.first l.fn.sites.offsets.items)) (map equation_tree l.fn.equations)
