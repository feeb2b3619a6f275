-- The operators of a node are those that its expressions are.
use Rattle.std.proofs.Common.{◌≡◌, ℕ, List, [], ◌∷◌, ◌++◌, drop, map, flat_map, refl, sym, ◌∙◌, ap}
use Rattle.std.proofs.lemmas.Grind.{flat_map-append}
use Rattle.rv_tree.specs.Tree.{Tree, Node, Not, Minus, Pre, Current, When, Binary, If, AtMostOne, Call, Trees, None, More, EquationTree, AssertionTree}
use Rattle.rv_tree.specs.Tree.{NodeTree}
use Rattle.rv_types.specs.Variables.{parts, parts_of_all, node_parts}
use Rattle.rv_instances.specs.Timed.{ToldOperator, operators_in, operators_of_all, own_operator, operators_told}

-- what is made of lists one after the other
flat_again : {X Y Z : Type 0} (f : X → List Y) (g : Y → List Z) (h : X → List Z) (xs : List X) → ((x : X) → h x ≡ flat_map g (f x))
    → flat_map h xs ≡ flat_map g (flat_map f xs)
flat_again f g h [] each = refl
flat_again f g h (x ∷ xs) each = (λ i. each x i ++ flat_again f g h xs each i) ∙ sym (flat_map-append g (f x) (flat_map f xs))

-- While some things are gone through: what is told now and what the rest gives are what was told before and what all give.
abbrev pub AreToldAfter : {A X Y : Type 0} → (X → Y) → List X → List X → (List A → List Y) → List A → ℕ → Type 0
AreToldAfter listed now before gives all k = map listed now ++ gives (drop k all) ≡ map listed before ++ gives all

module _ (n : NodeTree) where
  mutual
    pub operators_are : (e : Tree) → operators_in n e ≡ flat_map (own_operator n) (parts e)
    operators_are (Node at site (Not e)) = operators_are e
    operators_are (Node at site (Minus e)) = operators_are e
    operators_are (Node at site (Pre e)) = operators_are e
    operators_are (Node at site (Current e)) = operators_are e
    operators_are (Node at site (When e c)) = operators_are e
    operators_are (Node at site (Binary o a b)) =
        ap (λ (l : List ToldOperator). own_operator n (Node at site (Binary o a b)) ++ l)
        ((λ i. operators_are a i ++ operators_are b i) ∙ sym (flat_map-append (own_operator n) (parts a) (parts b)))
    operators_are (Node at site (If a b c)) =
        (λ i. operators_are a i ++ (operators_are b i ++ operators_are c i))
        ∙ ap (λ (l : List ToldOperator). flat_map (own_operator n) (parts a) ++ l) (sym (flat_map-append (own_operator n) (parts b) (parts c)))
        ∙ sym (flat_map-append (own_operator n) (parts a) (parts b ++ parts c))
    operators_are (Node at site (AtMostOne es)) = all_are es
    operators_are (Node at site (Call f es)) = all_are es
    operators_are _ = refl

    pub all_are : (es : Trees) → operators_of_all n es ≡ flat_map (own_operator n) (parts_of_all es)
    all_are None = refl
    all_are (More e es) = (λ i. operators_are e i ++ all_are es i) ∙ sym (flat_map-append (own_operator n) (parts e) (parts_of_all es))

  pub node_operators : operators_told n ≡ flat_map (own_operator n) (node_parts n)
  node_operators =
      (λ i. flat_again (λ (q : EquationTree). parts q.right) (own_operator n) (λ (q : EquationTree). operators_in n q.right) n.equations
      (λ q. operators_are q.right) i
      ++ flat_again (λ (a : AssertionTree). parts a.body) (own_operator n) (λ (a : AssertionTree). operators_in n a.body) n.assertions
      (λ a. operators_are a.body) i) ∙ sym (flat_map-append (own_operator n) (flat_map (λ (q : EquationTree). parts q.right) n.equations)
      (flat_map (λ (a : AssertionTree). parts a.body) n.assertions))
