use Rattle.std.proofs.Common.{◌≡◌, map, flat_map, take}
use Rattle.rv_tree.specs.Tree.{equation_tree}
use Rattle.rv_types.specs.{Earliest.first, NodeTypes.equation_by, Tables.scope_of}
use Rattle.rv_types.proofs.sides.equations_fault.Given as goal

abbrev pub invariant-loop-q : goal.invariant-loop-q
invariant-loop-q l = l.fault ≡ first (flat_map (equation_by (scope_of l.view)) (map equation_tree (take l.q-index l.equations)))
