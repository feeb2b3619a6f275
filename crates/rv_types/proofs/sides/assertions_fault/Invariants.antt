use Rattle.std.proofs.Common.{◌≡◌, map, flat_map, take}
use Rattle.rv_tree.specs.Tree.{assertion_tree}
use Rattle.rv_types.specs.{Earliest.first, NodeTypes.assertion_by, Tables.scope_of}
use Rattle.rv_types.proofs.sides.assertions_fault.Given as goal

abbrev pub invariant-loop-a : goal.invariant-loop-a
invariant-loop-a l = l.fault ≡ first (flat_map (assertion_by (scope_of l.view)) (map assertion_tree (take l.a-index l.assertions)))
