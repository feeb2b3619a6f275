use Rattle.std.proofs.Common.{◌≡◌, drop}
use Rattle.rv_types.specs.{Names.repeated, Names.decl_names, Firsts.firsts_after, Earliest.first, Earliest.sooner}
use Rattle.rv_types.proofs.spaces.declare_flows.Given as goal

abbrev pub invariant-loop-decl : goal.invariant-loop-decl
invariant-loop-decl l = record {
  space : firsts_after l.space (decl_names (drop l.decl-index l.decls)) ≡ firsts_after l.initial.space (decl_names l.decls);
  fault : sooner l.fault (first (repeated l.space (decl_names (drop l.decl-index l.decls)))) ≡ first (repeated l.initial.space (decl_names l.decls));
}
