use Rattle.std.proofs.Common.{◌≡◌, take, map, flat_map}
use Rattle.rv_types.specs.{Known.constant_use_in, Earliest.first}
use Rattle.rv_tree.specs.Tree.{constant_tree}
use Rattle.rv_types.proofs.names.unknown_in_constants.Given as goal

abbrev pub invariant-loop-constant : goal.invariant-loop-constant
invariant-loop-constant l = l.fault ≡ first (flat_map (constant_use_in l.spaces l.none) (map constant_tree (take l.constant-index l.constants)))
