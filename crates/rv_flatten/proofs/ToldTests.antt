-- In a program that keeps the rules the heads of left operands tell the comparisons of integers.
use Rattle.std.proofs.Common.{◌≡◌, Bool, ◌&&◌, cond, List, [], ◌∷◌, ◌++◌, map, refl, sym, ◌∙◌, ap, unwrap_or, Some, None as Nothing}
use Rattle.std.specs.List.{Contains}
use Rattle.rv_tree.specs.{declared.tree.Op.Op, Sites.is_comparison, Tree.Tree, Tree.Node, Tree.Binary, Tree.NodeTree, Tree.ProgramTree}
use Rattle.rv_types.specs.WellFormed.{IsWellFormed, IsWellTyped, AreWell}
use Rattle.rv_types.specs.{declared.typed.Kind.Kind, Heads.head_kind, Scopes.node_scope, Types.Scope, Types.kind_of, Variables.is_integer, Variables.node_parts}
use Rattle.rv_types.specs.declared.typed.Kind.TheVariants as kind
use Rattle.rv_types.proofs.{HeadKinds.head_is, TypedParts.left_typed, Members.at_head, Members.in_tail}
use Rattle.rv_agreement.specs.Programs.{is_test}
use Rattle.rv_flatten.specs.Compared.{is_told_test, tests_in, told_tests_in}
use Rattle.rv_flatten.proofs.ComparedParts.{own_of, node_is}
use Rattle.rv_base.proofs.Lists.{flat_map_same}

-- the head of a left operand that has a type tells whether integers are compared
pub told_is : (s : Scope) (o : Op) (a : Tree) (k : Kind) → kind_of s a ≡ Some k → is_told_test s o a ≡ is_test s o a
told_is s o a k typed =
    let same : head_kind s a ≡ unwrap_or (kind_of s a) kind.Bool = head_is s a k typed ∙ sym (ap (λ t. unwrap_or t kind.Bool) typed) in
    ap (λ (j : Kind). is_comparison o && is_integer j) same

module _ (p : ProgramTree) where
  module _ (n : NodeTree) (formed : IsWellFormed p n) (typed : IsWellTyped p n) where
    own_told : (e : Tree) → Contains (node_parts n) e → own_of n (is_told_test (node_scope p n)) e ≡ own_of n (is_test (node_scope p n)) e
    own_told (Node at (Some k) (Binary o a b)) w =
        let t = left_typed p n formed typed at (Some k) o a b w in
        ap (λ (c : Bool). cond c (record { site = k; operator = o } ∷ []) [] ++ []) (told_is (node_scope p n) o a t.0 t.1)
    own_told (Node at Nothing (Binary o a b)) w = refl
    own_told (Node at site _) w = refl

    node_told : told_tests_in p n ≡ tests_in p n
    node_told =
        node_is n (is_told_test (node_scope p n))
        ∙ flat_map_same (own_of n (is_told_test (node_scope p n))) (own_of n (is_test (node_scope p n))) (node_parts n) own_told
        ∙ sym (node_is n (is_test (node_scope p n)))

  each_told : (ns : List NodeTree) → ((n : NodeTree) → Contains ns n → told_tests_in p n ≡ tests_in p n) → map (told_tests_in p) ns ≡ map (tests_in p) ns
  each_told [] same = refl
  each_told (n ∷ ns) same =
      let one = same n (at_head n ns) in
      let rest = each_told ns (λ m w. same m (in_tail n ns m w)) in
      λ i. one i ∷ rest i

  -- the comparisons of all nodes
  pub nodes_told : AreWell p → map (told_tests_in p) p.nodes ≡ map (tests_in p) p.nodes
  nodes_told well = each_told p.nodes (λ n w. node_told n (well.formed n w) (well.typed n w))
