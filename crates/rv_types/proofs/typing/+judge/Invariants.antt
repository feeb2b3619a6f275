use Rattle.std.proofs.Common.{◌≡◌, ◌&&◌, map, drop}
use Rattle.rv_tree.specs.Tree.{tree_of, trees}
use Rattle.rv_types.specs.Types.{all_typed, all_suit, are_constant, fit, kinds_of_all, own_type_fault}
use Rattle.rv_types.specs.{Earliest.first, Earliest.sooner, Parts.faults_of_all, Tables.scope_of, declared.typed.Kind.TheVariants.Bool}
use Rattle.rv_types.proofs.typing.+judge.Given as goal

abbrev pub invariant-judge_all-loop-e : goal.invariant-judge_all-loop-e
invariant-judge_all-loop-e l = record {
  count : l.found.count ≡ l.e-index;
  typed : (l.found.typed && all_typed (kinds_of_all (scope_of l.view) (trees (map tree_of (drop l.e-index l.es))))) ≡ all_typed
      (kinds_of_all (scope_of l.view) (trees (map tree_of l.es)));
  boolean : (l.found.boolean && all_suit Bool (kinds_of_all (scope_of l.view) (trees (map tree_of (drop l.e-index l.es))))) ≡ all_suit Bool
      (kinds_of_all (scope_of l.view) (trees (map tree_of l.es)));
  constant : (l.found.constant && are_constant (scope_of l.view) (trees (map tree_of (drop l.e-index l.es)))) ≡ are_constant (scope_of l.view)
      (trees (map tree_of l.es));
  fit : (l.found.fit && fit (drop l.found.count l.wanted) (kinds_of_all (scope_of l.view) (trees (map tree_of (drop l.e-index l.es))))) ≡ fit l.wanted
      (kinds_of_all (scope_of l.view) (trees (map tree_of l.es)));
  fault : sooner l.found.fault (first (faults_of_all (own_type_fault (scope_of l.view)) (trees (map tree_of (drop l.e-index l.es))))) ≡ first
      (faults_of_all (own_type_fault (scope_of l.view)) (trees (map tree_of l.es)));
}
