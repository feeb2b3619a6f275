use Rattle.std.proofs.Common.{◌≡◌, ◌&&◌, ◌++◌, map, drop}
use Rattle.rv_tree.specs.Tree.{tree_of, trees}
use Rattle.rv_types.specs.Types.{all_typed, all_suit, are_constant, fit, kinds_of_all}
use Rattle.rv_types.specs.{Delayed.delayed_in_all, Tables.scope_of, declared.typed.Kind.TheVariants.Bool}
use Rattle.rv_types.proofs.delayed.+gather.Given as goal

abbrev pub invariant-gather_all-loop-e : goal.invariant-gather_all-loop-e
invariant-gather_all-loop-e l = record {
  count : l.together.count ≡ l.e-index;
  typed : (l.together.typed && all_typed (kinds_of_all (scope_of l.view) (trees (map tree_of (drop l.e-index l.es))))) ≡ all_typed
      (kinds_of_all (scope_of l.view) (trees (map tree_of l.es)));
  boolean : (l.together.boolean && all_suit Bool (kinds_of_all (scope_of l.view) (trees (map tree_of (drop l.e-index l.es))))) ≡ all_suit Bool
      (kinds_of_all (scope_of l.view) (trees (map tree_of l.es)));
  constant : (l.together.constant && are_constant (scope_of l.view) (trees (map tree_of (drop l.e-index l.es)))) ≡ are_constant (scope_of l.view)
      (trees (map tree_of l.es));
  fit : (l.together.fit && fit (drop l.together.count l.wanted) (kinds_of_all (scope_of l.view) (trees (map tree_of (drop l.e-index l.es))))) ≡ fit l.wanted
      (kinds_of_all (scope_of l.view) (trees (map tree_of l.es)));
  found :
      l.found ++ delayed_in_all (scope_of l.view) (trees (map tree_of (drop l.e-index l.es)))
      ≡ l.initial.found ++ delayed_in_all (scope_of l.view) (trees (map tree_of l.es));
}
