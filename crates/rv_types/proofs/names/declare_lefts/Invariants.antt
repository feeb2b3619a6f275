use Rattle.std.proofs.Common.{◌≡◌, drop, map, flat_map}
use Rattle.rv_tree.specs.Tree.{equation_tree}
use Rattle.rv_types.specs.{Names.repeated, Firsts.firsts_after, Earliest.first, Earliest.sooner}
use Rattle.rv_types.proofs.names.declare_lefts.Given as goal

abbrev pub invariant-loop-equation : goal.invariant-loop-equation
invariant-loop-equation l = record {
  space : firsts_after l.space (flat_map (λ q. q.lefts) (map equation_tree (drop l.equation-index l.equations))) ≡ firsts_after l.initial.space
      (flat_map (λ q. q.lefts) (map equation_tree l.equations));
  fault : sooner l.fault (first (repeated l.space (flat_map (λ q. q.lefts) (map equation_tree (drop l.equation-index l.equations))))) ≡ first
      (repeated l.initial.space (flat_map (λ q. q.lefts) (map equation_tree l.equations)));
}
