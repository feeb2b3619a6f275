use Rattle.std.proofs.Common.{◌≡◌, drop, flat_map}
use Rattle.rv_types.specs.{Names.repeated, Names.labels_of, Firsts.firsts_after, Earliest.first, Earliest.sooner}
use Rattle.rv_types.proofs.spaces.declare_labels.Given as goal

abbrev pub invariant-loop-decl : goal.invariant-loop-decl
invariant-loop-decl l = record {
  space : firsts_after l.space (flat_map labels_of (drop l.decl-index l.types)) ≡ firsts_after l.initial.space (flat_map labels_of l.types);
  fault : sooner l.fault (first (repeated l.space (flat_map labels_of (drop l.decl-index l.types)))) ≡ first
      (repeated l.initial.space (flat_map labels_of l.types));
}
