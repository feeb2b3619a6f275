use Rattle.std.proofs.Common.{◌≡◌, take, map, flat_map}
use Rattle.rv_types.specs.{Known.assertion_use_in, Earliest.first}
use Rattle.rv_tree.specs.Tree.{assertion_tree}
use Rattle.rv_types.proofs.names.unknown_in_assertions.Given as goal

abbrev pub invariant-loop-assertion : goal.invariant-loop-assertion
invariant-loop-assertion l = l.fault ≡ first (flat_map (assertion_use_in l.spaces l.flows) (map assertion_tree (take l.assertion-index l.assertions)))
