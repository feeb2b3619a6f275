-- The order tests of the operators of a node that keeps the rules are those of all its parts.
use Rattle.std.proofs.Common.{◌≡◌, ℕ, ◌+◌, cond, List, sym, ◌∙◌, refl, ap, arith, unwrap_or}
use Rattle.std.specs.List.{Contains}
use Rattle.rv_tree.specs.Tree.{Tree, Node, Binary, NodeTree, ProgramTree}
use Rattle.rv_types.specs.declared.typed.Kind.TheVariants as kind
use Rattle.rv_types.specs.Variables.{total, is_integer, tests_of, node_parts, own_tests, order_tests}
use Rattle.rv_types.specs.{Heads.head_kind, Scopes.node_scope, Types.Scope, Values.operand_kind, WellFormed.IsWellFormed, WellFormed.IsWellTyped}
use Rattle.rv_types.proofs.{HeadKinds.head_is, TypedParts.left_typed, DifferentPlaces.total_same, DifferentPlaces.total_flat_map}
use Rattle.rv_instances.specs.Timed.{ToldOperator, own_operator, operators_told}
use Rattle.rv_instances.proofs.TimedParts.{node_operators}
use Rattle.rv_sizes.specs.{Tests.tests_told, Capped.capped}

alone : (a b : ℕ) → a ≡ b → a ≡ b + 0
alone a b e = omega (arith, e)

module _ (p : ProgramTree) (n : NodeTree) (formed : IsWellFormed p n) (typed : IsWellTyped p n) where
  -- heads tell the order tests of a node that keeps the rules
  told : (e : Tree) → Contains (node_parts n) e → own_tests p n e ≡ total (tests_told (node_scope p n)) (own_operator n e)
  told (Node at site (Binary o a b)) w =
      let t = left_typed p n formed typed at site o a b w in
      let same : operand_kind p n a ≡ head_kind (node_scope p n) a = ap (λ o. unwrap_or o kind.Bool) t.1 ∙ sym (head_is (node_scope p n) a t.0 t.1) in
      alone (own_tests p n (Node at site (Binary o a b))) (cond (is_integer (head_kind (node_scope p n) a)) (tests_of o) 0)
      (ap (λ k. cond (is_integer k) (tests_of o) 0) same)
  told (Node at site form) w = refl

  pub tested : (s : Scope) (os : List ToldOperator) → s ≡ node_scope p n → os ≡ operators_told n → capped (total (tests_told s) os) ≡ capped (order_tests p n)
  tested s os scope operators =
      (λ i. capped (total (tests_told (scope i)) ((operators ∙ node_operators n) i)))
      ∙ ap capped (total_flat_map (tests_told (node_scope p n)) (own_operator n) (node_parts n)
      ∙ sym (total_same (own_tests p n) (λ (e : Tree). total (tests_told (node_scope p n)) (own_operator n e)) (node_parts n) told))
