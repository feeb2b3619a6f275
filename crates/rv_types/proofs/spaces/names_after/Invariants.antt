use Rattle.std.proofs.Common.{◌≡◌, take, flat_map}
use Rattle.rv_types.specs.{Names.repeated_after, Earliest.first}
use Rattle.rv_types.proofs.spaces.names_after.Given as goal

abbrev pub invariant-loop-name : goal.invariant-loop-name
invariant-loop-name l = l.fault ≡ first (flat_map (repeated_after l.others) ((take l.name-index l.names)))
