use Rattle.std.proofs.Common.{◌≡◌, ◌++◌, map, drop}
use Rattle.rv_tree.specs.{Tree.assertion_tree, Delays.delays_in_assertions}
use Rattle.rv_meaning.specs.Remembered.{sites_by}
use Rattle.rv_meaning.proofs.memory_list.gather_assertions.Given as goal

abbrev pub invariant-loop-assertion : goal.invariant-loop-assertion
invariant-loop-assertion l =
    l.sites ++ sites_by l.flows (delays_in_assertions (map assertion_tree (drop l.assertion-index l.assertions)))
    ≡ l.initial.sites ++ sites_by l.flows (delays_in_assertions (map assertion_tree l.assertions))
