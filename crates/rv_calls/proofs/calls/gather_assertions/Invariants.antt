use Rattle.std.proofs.Common.{◌≡◌, ◌++◌, map, drop}
use Rattle.rv_tree.specs.Tree.{assertion_tree}
use Rattle.rv_types.specs.Instances.{calls_in_assertions}
use Rattle.rv_calls.specs.Callings.{callings}
use Rattle.rv_calls.proofs.calls.gather_assertions.Given as goal

abbrev pub invariant-loop-assertion : goal.invariant-loop-assertion
invariant-loop-assertion l =
    l.found ++ callings l.names (calls_in_assertions (map assertion_tree (drop l.assertion-index l.assertions)))
    ≡ l.initial.found ++ callings l.names (calls_in_assertions (map assertion_tree l.assertions))
