use Rattle.std.proofs.Common.{◌≡◌, take, map, flat_map}
use Rattle.rv_types.specs.{Names.repeated_after, Earliest.first}
use Rattle.rv_tree.specs.Tree.{constant_tree}
use Rattle.rv_types.proofs.spaces.constants_after.Given as goal

abbrev pub invariant-loop-constant : goal.invariant-loop-constant
invariant-loop-constant l = l.fault ≡ first (flat_map (repeated_after l.others) (map (λ c. c.name) (map constant_tree (take l.constant-index l.constants))))
