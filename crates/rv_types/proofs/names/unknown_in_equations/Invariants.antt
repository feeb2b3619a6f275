use Rattle.std.proofs.Common.{◌≡◌, take, map, flat_map}
use Rattle.rv_types.specs.{Known.equation_use_in, Earliest.first}
use Rattle.rv_tree.specs.Tree.{equation_tree}
use Rattle.rv_types.proofs.names.unknown_in_equations.Given as goal

abbrev pub invariant-loop-equation : goal.invariant-loop-equation
invariant-loop-equation l = l.fault ≡ first (flat_map (equation_use_in l.spaces l.flows) (map equation_tree (take l.equation-index l.equations)))
