-- The numbers that are gathered of a program are its thresholds.
use Rattle.std.proofs.Common.{◌≡◌, ◌⊎◌, inl, inr, ℕ, ℤ, pos, ◌+ℤ◌, ◌-ℤ◌, neg_ℤ, List, [], ◌∷◌, ◌++◌, flat_map, refl, sym, subst, arith, Option}
use Rattle.std.proofs.lemmas.List.Elements.{Contains-append_left, Contains-append_right, Contains-append_cases}
use Rattle.std.proofs.{lemmas.Int.ints, lemmas.List.Sorted.Contains-permutation, lemmas.List.Sorted.IsPermutation-sym}
use Rattle.std.specs.{List.Contains, List.Sorted.IsPermutation}
use Rattle.rv_base.specs.{declared.value.Value.Value, declared.value.Value.TheVariants.Whole}
use Rattle.rv_tree.specs.Tree.{Tree, Node, Form, Number, Not, Minus, Pre, Current, When, Binary, If, AtMostOne, Call, Trees, None, More, EquationTree}
use Rattle.rv_tree.specs.Tree.{AssertionTree, ConstantTree, NodeTree, ProgramTree}
use Rattle.rv_types.specs.{Scopes.constant_values, Variables.parts, Variables.form_parts, Variables.parts_of_all, Variables.node_parts}
use Rattle.rv_flat.specs.Thresholds.{IsNumberOf, in_node, in_constant, constant, beside, IsThreshold, AreThresholds}
use Rattle.rv_flatten.specs.Literals.{literals, form_literals, literals_of_all, equation_literals, assertion_literals, node_literals, constant_literals}
use Rattle.rv_flatten.specs.Literals.{program_literals, around, around_literal, around_value, program_numbers, IsDistinctOf}
use Rattle.rv_types.proofs.Members.{at_head, cons_cases, in_flat_map, in_map, in_tail, nothing_in, of_flat_map}

-- A literal of an expression is one of its parts.
pub record HasLiteral (xs : List Tree) (v : ℕ) : Type 0 where
  pub at : ℕ
  pub site : Option ℕ
  pub there : Contains xs (Node at site (Number v))

wider : {xs ys : List Tree} {v : ℕ} → ((x : Tree) → Contains xs x → Contains ys x) → HasLiteral xs v → HasLiteral ys v
wider into h = record { at = h.at; site = h.site; there = into _ h.there }

mutual
  literal_part : (e : Tree) (v : ℕ) → Contains (literals e) v → HasLiteral (parts e) v
  literal_part (Node at site (Number n)) v w = elim (cons_cases n [] v w) [
    | inl is ↦ subst (λ m. HasLiteral (Node at site (Number n) ∷ []) m) is (record { at = at; site = site; there = at_head (Node at site (Number n)) [] })
    | inr rest ↦ nothing_in v rest
  ]
  literal_part (Node at site (Not e)) v w = wider (in_tail (Node at site (Not e)) (parts e)) (literal_part e v w)
  literal_part (Node at site (Minus e)) v w = wider (in_tail (Node at site (Minus e)) (parts e)) (literal_part e v w)
  literal_part (Node at site (Pre e)) v w = wider (in_tail (Node at site (Pre e)) (parts e)) (literal_part e v w)
  literal_part (Node at site (Current e)) v w = wider (in_tail (Node at site (Current e)) (parts e)) (literal_part e v w)
  literal_part (Node at site (When e c)) v w = wider (in_tail (Node at site (When e c)) (parts e)) (literal_part e v w)
  literal_part (Node at site (Binary o a b)) v w = wider (in_tail (Node at site (Binary o a b)) (parts a ++ parts b))
      (elim (Contains-append_cases (literals a) (literals b) v w) [
        | inl u ↦ wider (Contains-append_left (parts a) (parts b)) (literal_part a v u)
        | inr u ↦ wider (Contains-append_right (parts a) (parts b)) (literal_part b v u)
      ])
  literal_part (Node at site (If a b c)) v w = wider (in_tail (Node at site (If a b c)) (parts a ++ (parts b ++ parts c)))
      (elim (Contains-append_cases (literals a) (literals b ++ literals c) v w) [
        | inl u ↦ wider (Contains-append_left (parts a) (parts b ++ parts c)) (literal_part a v u)
        | inr u ↦ wider (Contains-append_right (parts a) (parts b ++ parts c)) (elim (Contains-append_cases (literals b) (literals c) v u) [
          | inl t ↦ wider (Contains-append_left (parts b) (parts c)) (literal_part b v t)
          | inr t ↦ wider (Contains-append_right (parts b) (parts c)) (literal_part c v t)
        ])
      ])
  literal_part (Node at site (AtMostOne es)) v w = wider (in_tail (Node at site (AtMostOne es)) (parts_of_all es)) (literal_part_of_all es v w)
  literal_part (Node at site (Call f es)) v w = wider (in_tail (Node at site (Call f es)) (parts_of_all es)) (literal_part_of_all es v w)
  literal_part (Node at site _) v w = nothing_in v w

  literal_part_of_all : (es : Trees) (v : ℕ) → Contains (literals_of_all es) v → HasLiteral (parts_of_all es) v
  literal_part_of_all None v w = nothing_in v w
  literal_part_of_all (More e es) v w = elim (Contains-append_cases (literals e) (literals_of_all es) v w) [
    | inl u ↦ wider (Contains-append_left (parts e) (parts_of_all es)) (literal_part e v u)
    | inr u ↦ wider (Contains-append_right (parts e) (parts_of_all es)) (literal_part_of_all es v u)
  ]

-- a part that is a literal is gathered
is_literal : (at a v : ℕ) (site s : Option ℕ) (form : Form) → Node at site form ≡ Node a s (Number v) → Contains (form_literals form) v
is_literal at a v site s form e = subst (λ t. Contains (literals t) v) (sym e) (at_head v [])

mutual
  part_literal : (e : Tree) (a v : ℕ) (s : Option ℕ) → Contains (parts e) (Node a s (Number v)) → Contains (literals e) v
  part_literal (Node at site form) a v s w = elim (cons_cases (Node at site form) (form_parts form) (Node a s (Number v)) w) [
    | inl is ↦ is_literal at a v site s form is
    | inr rest ↦ form_part_literal form a v s rest
  ]

  form_part_literal : (form : Form) (a v : ℕ) (s : Option ℕ) → Contains (form_parts form) (Node a s (Number v)) → Contains (form_literals form) v
  form_part_literal (Not e) a v s w = part_literal e a v s w
  form_part_literal (Minus e) a v s w = part_literal e a v s w
  form_part_literal (Pre e) a v s w = part_literal e a v s w
  form_part_literal (Current e) a v s w = part_literal e a v s w
  form_part_literal (When e c) a v s w = part_literal e a v s w
  form_part_literal (Binary o x y) a v s w = elim (Contains-append_cases (parts x) (parts y) (Node a s (Number v)) w) [
    | inl u ↦ Contains-append_left (literals x) (literals y) v (part_literal x a v s u)
    | inr u ↦ Contains-append_right (literals x) (literals y) v (part_literal y a v s u)
  ]
  form_part_literal (If x y z) a v s w = elim (Contains-append_cases (parts x) (parts y ++ parts z) (Node a s (Number v)) w) [
    | inl u ↦ Contains-append_left (literals x) (literals y ++ literals z) v (part_literal x a v s u)
    | inr u ↦ Contains-append_right (literals x) (literals y ++ literals z) v (elim (Contains-append_cases (parts y) (parts z) (Node a s (Number v)) u) [
      | inl t ↦ Contains-append_left (literals y) (literals z) v (part_literal y a v s t)
      | inr t ↦ Contains-append_right (literals y) (literals z) v (part_literal z a v s t)
    ])
  ]
  form_part_literal (AtMostOne es) a v s w = part_literal_of_all es a v s w
  form_part_literal (Call f es) a v s w = part_literal_of_all es a v s w
  form_part_literal _ a v s w = nothing_in _ w

  part_literal_of_all : (es : Trees) (a v : ℕ) (s : Option ℕ) → Contains (parts_of_all es) (Node a s (Number v)) → Contains (literals_of_all es) v
  part_literal_of_all None a v s w = nothing_in _ w
  part_literal_of_all (More e es) a v s w = elim (Contains-append_cases (parts e) (parts_of_all es) (Node a s (Number v)) w) [
    | inl u ↦ Contains-append_left (literals e) (literals_of_all es) v (part_literal e a v s u)
    | inr u ↦ Contains-append_right (literals e) (literals_of_all es) v (part_literal_of_all es a v s u)
  ]

-- the same of a node
node_literal : (n : NodeTree) (v : ℕ) → Contains (node_literals n) v → HasLiteral (node_parts n) v
node_literal n v w = elim (Contains-append_cases (equation_literals n.equations) (assertion_literals n.assertions) v w) [
  | inl u ↦
      let r = of_flat_map (λ (q : EquationTree). literals q.right) n.equations v u in
      wider (λ x t. Contains-append_left (flat_map (λ q. parts q.right) n.equations) (flat_map (λ a. parts a.body) n.assertions) x
      (in_flat_map (λ (q : EquationTree). parts q.right) n.equations r.0 x r.1 t))
      (literal_part r.0.right v r.2)
  | inr u ↦
      let r = of_flat_map (λ (a : AssertionTree). literals a.body) n.assertions v u in
      wider (λ x t. Contains-append_right (flat_map (λ q. parts q.right) n.equations) (flat_map (λ a. parts a.body) n.assertions) x
      (in_flat_map (λ (a : AssertionTree). parts a.body) n.assertions r.0 x r.1 t))
      (literal_part r.0.body v r.2)
]

literal_of_node : (n : NodeTree) (a v : ℕ) (s : Option ℕ) → Contains (node_parts n) (Node a s (Number v)) → Contains (node_literals n) v
literal_of_node n a v s w = elim (Contains-append_cases (flat_map (λ (q : EquationTree). parts q.right) n.equations)
    (flat_map (λ (a : AssertionTree). parts a.body) n.assertions) (Node a s (Number v)) w) [
      | inl u ↦
          let r = of_flat_map (λ (q : EquationTree). parts q.right) n.equations (Node a s (Number v)) u in
          Contains-append_left (equation_literals n.equations) (assertion_literals n.assertions) v
          (in_flat_map (λ (q : EquationTree). literals q.right) n.equations r.0 v r.1 (part_literal r.0.right a v s r.2))
      | inr u ↦
          let r = of_flat_map (λ (a : AssertionTree). parts a.body) n.assertions (Node a s (Number v)) u in
          Contains-append_right (equation_literals n.equations) (assertion_literals n.assertions) v
          (in_flat_map (λ (a : AssertionTree). literals a.body) n.assertions r.0 v r.1 (part_literal r.0.body a v s r.2))
    ]

-- what stands beside a number, and the negatives of that
negatives : ℤ → List ℤ
negatives z = neg_ℤ (z -ℤ pos 1) ∷ neg_ℤ z ∷ neg_ℤ (z +ℤ pos 1) ∷ []

twice_negative : (z : ℤ) → neg_ℤ (neg_ℤ z) ≡ z
twice_negative z = omega (arith, ints)

around_here : (y z : ℤ) → (Contains (beside z) y) ⊎ (Contains (beside z) (neg_ℤ y)) → Contains (around z) y
unfolding negatives
around_here y z (inl w) = Contains-append_left (beside z) (negatives z) y w
around_here y z (inr w) = Contains-append_right (beside z) (negatives z) y
    (subst (Contains (negatives z)) (twice_negative y) (in_map neg_ℤ (beside z) (neg_ℤ y) w))

back_around : (y z : ℤ) → Contains (around z) y → (Contains (beside z) y) ⊎ (Contains (beside z) (neg_ℤ y))
unfolding negatives
back_around y z w = elim (Contains-append_cases (beside z) (negatives z) y w) [
  | inl u ↦ inl u
  | inr u ↦ inr (subst (λ l. Contains l (neg_ℤ y)) (λ i. twice_negative (z -ℤ pos 1) i ∷ twice_negative z i ∷ twice_negative (z +ℤ pos 1) i ∷ [])
      (in_map neg_ℤ (negatives z) y u))
]

module _ (p : ProgramTree) where
  number_gathered : (y z : ℤ) → IsNumberOf p z → Contains (around z) y → Contains (program_numbers p) y
  number_gathered y z (in_node n at v site is_node there is) w =
      Contains-append_left (flat_map around_literal (program_literals p)) (flat_map around_value (constant_values p)) y
      (in_flat_map around_literal (program_literals p) v y (Contains-append_right (constant_literals p.constants) (flat_map node_literals p.nodes) v
      (in_flat_map node_literals p.nodes n v is_node (literal_of_node n at v site there))) (subst (λ u. Contains (around u) y) (sym is) w))
  number_gathered y z (in_constant c at v site is_constant there is) w =
      Contains-append_left (flat_map around_literal (program_literals p)) (flat_map around_value (constant_values p)) y
      (in_flat_map around_literal (program_literals p) v y (Contains-append_left (constant_literals p.constants) (flat_map node_literals p.nodes) v
      (in_flat_map (λ (c : ConstantTree). literals c.body) p.constants c v is_constant (part_literal c.body at v site there)))
      (subst (λ u. Contains (around u) y) (sym is) w))
  number_gathered y z (constant there) w =
      Contains-append_right (flat_map around_literal (program_literals p)) (flat_map around_value (constant_values p)) y
      (in_flat_map around_value (constant_values p) (Whole z) y there w)

  of_literal : (v : ℕ) → Contains (program_literals p) v → IsNumberOf p (pos v)
  of_literal v w = elim (Contains-append_cases (constant_literals p.constants) (flat_map node_literals p.nodes) v w) [
    | inl u ↦
        let r = of_flat_map (λ (c : ConstantTree). literals c.body) p.constants v u in
        let h = literal_part r.0.body v r.2 in
        in_constant r.0 h.at v h.site r.1 h.there refl
    | inr u ↦
        let r = of_flat_map node_literals p.nodes v u in let h = node_literal r.0 v r.2 in
        in_node r.0 h.at v h.site r.1 h.there refl
  ]

  of_value : (v : Value) (y : ℤ) → Contains (constant_values p) v → Contains (around_value v) y → IsThreshold p y
  of_value (Whole z) y w u = (z, constant w, back_around y z u)
  of_value _ y w u = nothing_in y u

  gathered_number : (y : ℤ) → Contains (program_numbers p) y → IsThreshold p y
  gathered_number y w = elim (Contains-append_cases (flat_map around_literal (program_literals p)) (flat_map around_value (constant_values p)) y w) [
    | inl u ↦ let r = of_flat_map around_literal (program_literals p) y u in (pos r.0, of_literal r.0 r.1, back_around y (pos r.0) r.2)
    | inr u ↦ let r = of_flat_map around_value (constant_values p) y u in of_value r.0 y r.1 r.2
  ]

  -- The distinct ones of the gathered numbers, sorted, are the thresholds.
  pub distinct_thresholds : (xs sorted ys : List ℤ) → xs ≡ program_numbers p → IsPermutation xs sorted → IsDistinctOf sorted ys → AreThresholds p ys
  distinct_thresholds xs sorted ys gathered moved distinct = record {
    rising = distinct.rising;
    all = λ y t. distinct.all y (Contains-permutation xs sorted y moved
        (subst (λ l. Contains l y) (sym gathered) (number_gathered y t.0 t.1 (around_here y t.0 t.2))));
    only = λ y w. gathered_number y (subst (λ l. Contains l y) gathered
        (Contains-permutation sorted xs y (IsPermutation-sym xs sorted moved) (distinct.only y w)));
  }
