use Rattle.std.proofs.Common.{◌≡◌, take, flat_map}
use Rattle.rv_types.specs.{Names.undefined_unless, Names.decl_names, Earliest.first}
use Rattle.rv_types.proofs.names.undefined_flows.Given as goal

abbrev pub invariant-loop-decl : goal.invariant-loop-decl
invariant-loop-decl l = l.fault ≡ first (flat_map (undefined_unless l.lefts) (decl_names (take l.decl-index l.decls)))
