use Rattle.std.proofs.Common.{◌≡◌, ◌++◌, map, flat_map, drop}
use Rattle.rv_tree.specs.Tree.{AssertionTree, assertion_tree}
use Rattle.rv_types.specs.{Delayed.delayed_in, Tables.scope_of}
use Rattle.rv_types.proofs.delayed.gather_assertions.Given as goal

abbrev pub invariant-loop-assertion : goal.invariant-loop-assertion
invariant-loop-assertion l =
    l.found ++ flat_map (λ (a : AssertionTree). delayed_in (scope_of l.view) a.body) (map assertion_tree (drop l.assertion-index l.assertions))
    ≡ l.initial.found ++ flat_map (λ (a : AssertionTree). delayed_in (scope_of l.view) a.body) (map assertion_tree l.assertions)
