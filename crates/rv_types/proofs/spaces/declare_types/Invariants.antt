use Rattle.std.proofs.Common.{◌≡◌, drop, map}
use Rattle.rv_types.specs.{Names.repeated, Firsts.firsts_after, Earliest.first, Earliest.sooner}
use Rattle.rv_types.proofs.spaces.declare_types.Given as goal

abbrev pub invariant-loop-decl : goal.invariant-loop-decl
invariant-loop-decl l = record {
  space : firsts_after l.space (map (λ d. d.name) (drop l.decl-index l.types)) ≡ firsts_after l.initial.space (map (λ d. d.name) l.types);
  fault : sooner l.fault (first (repeated l.space (map (λ d. d.name) (drop l.decl-index l.types)))) ≡ first
      (repeated l.initial.space (map (λ d. d.name) l.types));
}
