use Rattle.std.proofs.Common.{◌≡◌, drop}
use Rattle.rv_types.specs.{Names.repeated, Firsts.firsts_after, Earliest.first, Earliest.sooner}
use Rattle.rv_types.proofs.spaces.declare_names.Given as goal

abbrev pub invariant-loop-name : goal.invariant-loop-name
invariant-loop-name l = record {
  space : firsts_after l.space (drop l.name-index l.names) ≡ firsts_after l.initial.space l.names;
  fault : sooner l.fault (first (repeated l.space (drop l.name-index l.names))) ≡ first (repeated l.initial.space l.names);
}
