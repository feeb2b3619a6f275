use Rattle.std.proofs.Common.{◌≡◌, drop, map}
use Rattle.rv_types.specs.{Names.repeated, Firsts.firsts_after, Earliest.first, Earliest.sooner}
use Rattle.rv_tree.specs.Tree.{constant_tree}
use Rattle.rv_types.proofs.spaces.declare_constants.Given as goal

abbrev pub invariant-loop-constant : goal.invariant-loop-constant
invariant-loop-constant l = record {
  space : firsts_after l.space (map (λ c. c.name) (map constant_tree (drop l.constant-index l.constants))) ≡ firsts_after l.initial.space
      (map (λ c. c.name) (map constant_tree l.constants));
  fault : sooner l.fault (first (repeated l.space (map (λ c. c.name) (map constant_tree (drop l.constant-index l.constants))))) ≡ first
      (repeated l.initial.space (map (λ c. c.name) (map constant_tree l.constants)));
}
