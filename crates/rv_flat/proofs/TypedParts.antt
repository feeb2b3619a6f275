-- The parts of an expression that has a type have types.
use Rattle.std.proofs.Common.{◌≡◌, ℕ, Bool, true, ◌||◌, ◌∷◌, refl, ap, Option, Some, IsSome, None as Nothing}
use Rattle.rv_tree.specs.Tree.{Tree, Node, Named, Not, Minus, Pre, Current, When, Binary, If, AtMostOne, Call, Trees, NodeTree, ProgramTree}
use Rattle.rv_tree.specs.{declared.tree.Name.Name, declared.tree.Op.Op, Places.Identifier}
use Rattle.rv_types.specs.Types.{Scope, kind_in, same_kind, all_typed, all_suit, binary_rule}
use Rattle.rv_types.specs.Types.{is_constant, kind_of, kinds_of_all}
use Rattle.rv_types.specs.{declared.typed.Kind.Kind}
use Rattle.rv_types.specs.{Kinds.flow_kind, Scopes.value_kind, Scopes.node_scope, Scopes.signature_named}
use Rattle.rv_types.specs.{Instances.IsArgument, Instances.head, Instances.tail}
use Rattle.rv_types.specs.declared.typed.Kind.TheVariants as kind
use Rattle.rv_types.proofs.Verdicts.{kind_same, two_kinds, named_kind, suited_kind, memory_kind, when_kind, if_kinds, most_kind, Called, call_kind}
use Rattle.rv_types.proofs.ChainLaws.{no_flag}
use Rattle.rv_base.proofs.Truths.{both_of}

-- what is there
pub some_is : {X : Type 0} {o : Option X} → IsSome o → (x : X) × (o ≡ Some x)
some_is {X = X} {o = o} h = by o h
  where
    by : (o : Option X) → IsSome o → (x : X) × (o ≡ Some x)
    by Nothing h = no_flag h
    by (Some x) h = (x, refl)

-- the types of two operands
pub record Operands (scaled : Bool) (o : Op) (a b : Option Kind) (k : Kind) : Type 0 where
  pub left : Kind
  pub right : Kind
  pub left_is : a ≡ Some left
  pub right_is : b ≡ Some right
  pub rule : kind_in (binary_rule true scaled o left right) ≡ Some k

module _ (program : ProgramTree) (n : NodeTree) where
  abbrev scope : Scope
  scope = node_scope program n

  -- an expression has a type
  abbrev pub IsTyped : Tree → Kind → Type 0
  IsTyped e k = kind_of (node_scope program n) e ≡ Some k

  pub named_typed : (at : ℕ) (site : Option ℕ) (x : Identifier) (k : Kind) → IsTyped (Node at site (Named x)) k → value_kind program n x ≡ Some k
  named_typed at site x k t = named_kind (value_kind program n x) k t

  pub not_typed : (at : ℕ) (site : Option ℕ) (e : Tree) (k : Kind) → IsTyped (Node at site (Not e)) k → IsTyped e kind.Bool × (kind.Bool ≡ k)
  not_typed at site e k t = suited_kind kind.Bool (kind_of scope e) k t

  pub minus_typed : (at : ℕ) (site : Option ℕ) (e : Tree) (k : Kind) → IsTyped (Node at site (Minus e)) k → IsTyped e kind.Int × (kind.Int ≡ k)
  minus_typed at site e k t = suited_kind kind.Int (kind_of scope e) k t

  pub pre_typed : (at : ℕ) (site : Option ℕ) (e : Tree) (k : Kind) → IsTyped (Node at site (Pre e)) k → IsTyped e k
  pre_typed at site e k t = (memory_kind true (kind_of scope e) k t).1

  pub current_typed : (at : ℕ) (site : Option ℕ) (e : Tree) (k : Kind) → IsTyped (Node at site (Current e)) k → IsTyped e k
  current_typed at site e k t = (memory_kind true (kind_of scope e) k t).1

  pub when_typed : (at : ℕ) (site : Option ℕ) (e : Tree) (c : Name) (k : Kind) → IsTyped (Node at site (When e c)) k
      → IsTyped e k × (flow_kind program n c.text ≡ Some kind.Bool)
  when_typed at site e c k t = let w = when_kind true (kind_of scope e) (flow_kind program n c.text) k t in (w.1, w.2)

  pub binary_typed : (at : ℕ) (site : Option ℕ) (o : Op) (a b : Tree) (k : Kind) → IsTyped (Node at site (Binary o a b)) k
      → Operands (is_constant (node_scope program n) a || is_constant (node_scope program n) b) o (kind_of (node_scope program n) a)
      (kind_of (node_scope program n) b) k
  binary_typed at site o a b k t =
      let r = two_kinds (binary_rule true (is_constant scope a || is_constant scope b) o) (kind_of scope a) (kind_of scope b) k t in
      record { left = r.0; right = r.1; left_is = r.2; right_is = r.3; rule = r.4 }

  pub if_typed : (at : ℕ) (site : Option ℕ) (a b c : Tree) (k : Kind) → IsTyped (Node at site (If a b c)) k → IsTyped a kind.Bool × IsTyped b k × IsTyped c k
  if_typed at site a b c k t = if_kinds (kind_of scope a) (kind_of scope b) (kind_of scope c) k t

  suited : (es : Trees) → all_typed (kinds_of_all scope es) ≡ true → all_suit kind.Bool (kinds_of_all scope es) ≡ true → (j : ℕ) (e : Tree) → IsArgument es j e
      → IsTyped e kind.Bool
  suited _ t s _ e (head {es}) = by (kind_of scope e) t s
    where
      by : (o : Option Kind) → all_typed (o ∷ kinds_of_all scope es) ≡ true → all_suit kind.Bool (o ∷ kinds_of_all scope es) ≡ true → o ≡ Some kind.Bool
      by Nothing t s = no_flag t
      by (Some j) t s = ap Some (kind_same j kind.Bool (both_of (same_kind j kind.Bool) (all_suit kind.Bool (kinds_of_all scope es)) s).0)
  suited _ t s _ e (tail {e = b} {es = es} {j = j} arg) = by (kind_of scope b) t s (λ u v. suited es u v j e arg)
    where
      by : (o : Option Kind) → all_typed (o ∷ kinds_of_all scope es) ≡ true → all_suit kind.Bool (o ∷ kinds_of_all scope es) ≡ true
          → (all_typed (kinds_of_all scope es) ≡ true → all_suit kind.Bool (kinds_of_all scope es) ≡ true → IsTyped e kind.Bool) → IsTyped e kind.Bool
      by Nothing t s again = no_flag t
      by (Some i) t s again = again t (both_of (same_kind i kind.Bool) (all_suit kind.Bool (kinds_of_all scope es)) s).1

  pub most_typed : (at : ℕ) (site : Option ℕ) (es : Trees) (k : Kind) → IsTyped (Node at site (AtMostOne es)) k
      → ((j : ℕ) (e : Tree) → IsArgument es j e → IsTyped e kind.Bool) × (kind.Bool ≡ k)
  most_typed at site es k t = let m = most_kind (kinds_of_all scope es) k t in (suited es m.0 m.1, m.2)

  pub call_typed : (at : ℕ) (site : Option ℕ) (f : Identifier) (args : Trees) (k : Kind) → IsTyped (Node at site (Call f args)) k
      → Called (signature_named program f) (kinds_of_all (node_scope program n) args) k
  call_typed at site f args k t = (call_kind true (signature_named program f) (kinds_of_all scope args) k t).1
