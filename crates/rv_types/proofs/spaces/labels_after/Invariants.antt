use Rattle.std.proofs.Common.{◌≡◌, take, flat_map}
use Rattle.rv_types.specs.{Names.repeated_after, Names.labels_of, Earliest.first}
use Rattle.rv_types.proofs.spaces.labels_after.Given as goal

abbrev pub invariant-loop-decl : goal.invariant-loop-decl
invariant-loop-decl l = l.fault ≡ first (flat_map (repeated_after l.others) (flat_map labels_of (take l.decl-index l.types)))
