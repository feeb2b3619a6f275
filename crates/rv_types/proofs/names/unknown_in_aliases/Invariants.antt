use Rattle.std.proofs.Common.{◌≡◌, take, flat_map}
use Rattle.rv_types.specs.{Known.alias_use_in, Earliest.first}
use Rattle.rv_types.proofs.names.unknown_in_aliases.Given as goal

abbrev pub invariant-loop-decl : goal.invariant-loop-decl
invariant-loop-decl l = l.fault ≡ first (flat_map (alias_use_in l.types) (take l.decl-index l.decls))
