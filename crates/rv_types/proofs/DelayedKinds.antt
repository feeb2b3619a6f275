-- The types of the operands that a walk comes to are those of the `pre` and `current` of a node.
use Rattle.std.proofs.Common.{◌≡◌, ℕ, List, [], ◌∷◌, ◌++◌, flat_map, unwrap_or, Option, refl, sym, ◌∙◌, ap}
use Rattle.std.proofs.lemmas.List.{map-append}
use Rattle.rv_tree.specs.Delays.{Delay, delays, form_delays, delays_of_all, delays_in_equations, delays_in_assertions, node_delays}
use Rattle.rv_tree.specs.Tree.{Tree, Node, Form, Not, Minus, Pre, Current, When, Binary, If, AtMostOne, Call, Trees, None, More, EquationTree, AssertionTree}
use Rattle.rv_tree.specs.Tree.{NodeTree}
use Rattle.rv_types.specs.Delayed.{delayed_kind, delayed_kinds, delayed_in, form_delayed, delayed_in_all, node_delayed}
use Rattle.rv_types.specs.{declared.typed.Kind.Kind, Types.Scope, Types.kind_of}
use Rattle.rv_types.specs.declared.typed.Kind.TheVariants as kind

module _ (s : Scope) where
  both : (ds es : List Delay) (xs ys : List Kind) → xs ≡ delayed_kinds s ds → ys ≡ delayed_kinds s es → xs ++ ys ≡ delayed_kinds s (ds ++ es)
  both ds es xs ys a b = (λ i. a i ++ b i) ∙ sym (map-append (delayed_kind s) ds es)

  mutual
    in_expression : (e : Tree) → delayed_in s e ≡ delayed_kinds s (delays e)
    in_expression (Node at site form) = in_form site form

    in_form : (site : Option ℕ) (form : Form) → form_delayed s form ≡ delayed_kinds s (form_delays site form)
    in_form site (Not e) = in_expression e
    in_form site (Minus e) = in_expression e
    in_form site (Pre e) = ap (λ (l : List Kind). unwrap_or (kind_of s e) kind.Bool ∷ l) (in_expression e)
    in_form site (Current e) = ap (λ (l : List Kind). unwrap_or (kind_of s e) kind.Bool ∷ l) (in_expression e)
    in_form site (When e c) = in_expression e
    in_form site (Binary o a b) = both (delays a) (delays b) (delayed_in s a) (delayed_in s b) (in_expression a) (in_expression b)
    in_form site (If a b c) =
        both (delays a) (delays b ++ delays c) (delayed_in s a) (delayed_in s b ++ delayed_in s c) (in_expression a)
        (both (delays b) (delays c) (delayed_in s b) (delayed_in s c) (in_expression b) (in_expression c))
    in_form site (AtMostOne es) = in_all es
    in_form site (Call f es) = in_all es
    in_form site _ = refl

    in_all : (es : Trees) → delayed_in_all s es ≡ delayed_kinds s (delays_of_all es)
    in_all None = refl
    in_all (More e es) = both (delays e) (delays_of_all es) (delayed_in s e) (delayed_in_all s es) (in_expression e) (in_all es)

  in_equations : (qs : List EquationTree) → flat_map (λ (q : EquationTree). delayed_in s q.right) qs ≡ delayed_kinds s (delays_in_equations qs)
  in_equations [] = refl
  in_equations (q ∷ qs) = both (delays q.right) (delays_in_equations qs) (delayed_in s q.right) (flat_map (λ (q : EquationTree). delayed_in s q.right) qs)
      (in_expression q.right) (in_equations qs)

  in_assertions : (qs : List AssertionTree) → flat_map (λ (a : AssertionTree). delayed_in s a.body) qs ≡ delayed_kinds s (delays_in_assertions qs)
  in_assertions [] = refl
  in_assertions (a ∷ rest) = both (delays a.body) (delays_in_assertions rest) (delayed_in s a.body) (flat_map (λ (a : AssertionTree). delayed_in s a.body) rest)
      (in_expression a.body) (in_assertions rest)

  pub in_node : (n : NodeTree) → node_delayed s n ≡ delayed_kinds s (node_delays n)
  in_node n =
      both (delays_in_equations n.equations) (delays_in_assertions n.assertions) (flat_map (λ (q : EquationTree). delayed_in s q.right) n.equations)
      (flat_map (λ (a : AssertionTree). delayed_in s a.body) n.assertions)
      (in_equations n.equations) (in_assertions n.assertions)
