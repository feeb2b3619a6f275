use Rattle.std.proofs.Common.{◌≡◌, take, flat_map}
use Rattle.rv_types.specs.{Names.is_declared, Names.use_of, Earliest.first}
use Rattle.rv_types.proofs.names.unknown_names.Given as goal

abbrev pub invariant-loop-name : goal.invariant-loop-name
invariant-loop-name l = l.fault ≡ first (flat_map (use_of (is_declared l.flows)) (take l.name-index l.names))
