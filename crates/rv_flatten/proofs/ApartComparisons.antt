-- The comparisons of a system that is read from its program: at one place there is one, with its operands.
use Rattle.std.proofs.Common.{◌≡◌, ◌⊎◌, inl, inr, ℕ, suc, ◌<◌, ℤ, Bool, true, false, cond, nat_eq, List, [], ◌∷◌, ◌++◌, length, refl, sym, ◌∙◌, subst, arith}
use Rattle.std.proofs.Common.{Option, Some, None as Nothing}
use Rattle.std.proofs.{lemmas.List.length-map, lemmas.List.get_or_default, lemmas.List.Elements.Contains-append_cases}
use Rattle.std.specs.List.{Contains}
use Rattle.rv_tree.specs.{declared.tree.Op.Op, Sites.is_comparison, Tree.Tree, Tree.Trees, Tree.ProgramTree, Places.Identifier, Places.Sites}
use Rattle.rv_tree.specs.{Places.is_flow, Places.index_of}
use Rattle.rv_tree.specs.declared.tree.Op.TheVariants as op
use Rattle.rv_tree.specs.Tree as tree
use Rattle.rv_types.specs.Instances.{Body, Instance, place, clock_in, IsInstance, IsNode, IsArgument, head, tail}
use Rattle.rv_types.specs.{declared.typed.Clock.TheVariants.Base, Lists.sides_of, Needs.Giver, Needs.Gives, Needs.by_equation, Needs.by_call, Scopes.node_scope}
use Rattle.rv_types.specs.{Scopes.constant_value, Types.is_constant, Variables.node_parts, WellFormed.AreWell}
use Rattle.rv_agreement.specs.Translation.{Numbers, tick_number, unplaced, flat_of, flats_of, giver_item, IsTranslated}
use Rattle.rv_agreement.specs.Trees.{FlatTree, Constant, Flow, Ticked, Scale, If, Binary, Item, Kept, System, no_item, nth_item, memory_items}
use Rattle.rv_agreement.specs.Valuations.{Comparison, is_placed, own, comparisons, form_comparisons, comparisons_of, item_comparisons, all_items}
use Rattle.rv_agreement.specs.Valuations.{all_comparisons}
use Rattle.rv_agreement.specs.{Agreement.AreApart, Programs.spot, Programs.is_test, Programs.operator_place, Programs.coefficient, Programs.operation}
use Rattle.rv_flatten.proofs.Standing.{Stands, as_child, of_not, of_minus, of_when, of_left, of_right, of_condition, of_first, of_second, of_operand, stands_in}
use Rattle.rv_flatten.proofs.Standing.{body_stands, argument_stands, operand_stands, as_assertion}
use Rattle.rv_flatten.proofs.ComparedParts.{one_tree}
use Rattle.rv_instances.proofs.FlowPlaces.{snoc_parts}
use Rattle.rv_types.proofs.{Members.cons_cases, Members.nothing_in, Members.of_flat_map, ChainLaws.no_flag}
use Rattle.rv_base.proofs.Truths.{both_of}
use Rattle.rv_meaning.proofs.{Defined.same_instance, Acceptable.node_in}

-- what an operator is itself has a place
own_is : (o : Op) (r c : Comparison) → Contains (own o r) c → (is_placed r.at ≡ true) × (r ≡ c)
own_is o r c w = by (is_placed r.at) (nat_eq (length (sides_of o)) 0) w
  where
    by : (b z : Bool) → Contains (cond b (cond z [] (r ∷ [])) []) c → (b ≡ true) × (r ≡ c)
    by false z w = nothing_in c w
    by true true w = nothing_in c w
    by true false w = (refl, elim (cons_cases r [] c w) [ inl is ↦ is | inr rest ↦ nothing_in c rest ])

-- a place of an operator is that of its site
placed_at : (path : Sites) (site : Option ℕ) (b : Bool) → is_placed (cond b (spot path site) []) ≡ true
    → (b ≡ true) × ((m : ℕ) × (site ≡ Some m) × (cond b (spot path site) [] ≡ path ++ m ∷ []))
placed_at path site false e = no_flag e
placed_at path Nothing true e = no_flag e
placed_at path (Some m) true e = (refl, (m, refl, refl))

module _ (flows : List Item) (k : Option ℕ) (at : Sites) (t : ℕ) (f g : FlatTree) (left : Bool) (y z : ℤ) (c : Comparison) where
  abbrev OneOf : Op → Type 0
  OneOf o = Contains (own o (record { at = at; clock = k; operator = o; left = f; right = g })) c
      ⊎ (Contains (comparisons flows k f) c ⊎ Contains (comparisons flows k g) c)

  of_plain : (o : Op) → Contains (own o (record { at = at; clock = k; operator = o; left = f; right = g }) ++ (comparisons flows k f ++ comparisons flows k g))
      c → OneOf o
  of_plain o w = elim (Contains-append_cases (own o (record { at = at; clock = k; operator = o; left = f; right = g }))
      (comparisons flows k f ++ comparisons flows k g) c w) [
        | inl v ↦ inl v
        | inr v ↦ inr (Contains-append_cases (comparisons flows k f) (comparisons flows k g) c v)
      ]

  of_product : (b : Bool) → Contains (form_comparisons flows k at (cond b (Scale y g) (Scale z f))) c → OneOf op.Times
  of_product true w = inr (inr w)
  of_product false w = inr (inl w)

  -- the comparisons of what an operator is read as
  of_operator : (o : Op) → Contains (form_comparisons flows k at (operation o (If (unplaced (Ticked t)) g f) (cond left (Scale y g) (Scale z f))
      (Binary o f g))) c → OneOf o
  of_operator op.Arrow w = elim (Contains-append_cases (comparisons flows k g) (comparisons flows k f) c w) [ inl v ↦ inr (inr v) | inr v ↦ inr (inl v) ]
  of_operator op.Times w = of_product left w
  of_operator o w = of_plain o w

-- what is in a list stands at a number
pub at_number : (xs : List Item) (x : Item) → Contains xs x → (k : ℕ) × (k < length xs) × (nth_item xs k ≡ x)
at_number xs x w = (w.0, w.1, get_or_default xs w.0 no_item x w.1 ∙ w.2)

module _ (program : ProgramTree) (main : Identifier) (numbers : Numbers) where
  -- A comparison that is read from one of an instance.
  pub record IsReadFrom (c : Comparison) : Type 0 where
    pub i : Instance
    pub of : IsInstance program main i
    pub at : ℕ
    pub site : ℕ
    pub operator : Op
    pub left : Tree
    pub right : Tree
    pub there : Contains (node_parts i.node) (tree.Node at (Some site) (tree.Binary operator left right))
    pub compares : is_comparison operator ≡ true
    pub place : c.at ≡ i.path ++ site ∷ []
    pub left_is : c.left ≡ flat_of program numbers i left
    pub right_is : c.right ≡ flat_of program numbers i right

  module _ (flows : List Item) (i : Instance) (of : IsInstance program main i) where
    own_read : (at : ℕ) (site : Option ℕ) (o : Op) (a b : Tree) (k : Option ℕ) (c : Comparison) → Stands i.node (tree.Node at site (tree.Binary o a b))
        → Contains (own o (record {
          at = operator_place program i site o a;
          clock = k;
          operator = o;
          left = flat_of program numbers i a;
          right = flat_of program numbers i b;
        })) c → IsReadFrom c
    own_read at site o a b k c t w =
        let r : Comparison = record {
          at = operator_place program i site o a;
          clock = k;
          operator = o;
          left = flat_of program numbers i a;
          right = flat_of program numbers i b;
        } in
        let u = own_is o r c w in
        let v = placed_at i.path site (is_test (node_scope program i.node) o a) u.0 in
        subst IsReadFrom u.1 (record {
          i = i;
          of = of;
          at = at;
          site = v.1.0;
          operator = o;
          left = a;
          right = b;
          there = subst (λ (m : Option ℕ). Contains (node_parts i.node) (tree.Node at m (tree.Binary o a b))) v.1.1
              (stands_in i.node (tree.Node at site (tree.Binary o a b)) t);
          compares = (both_of (is_comparison o) _ v.0).0;
          place = v.1.2;
          left_is = refl;
          right_is = refl;
        })

    named_none : (k : Option ℕ) (x : Identifier) (b : Bool) (c : Comparison)
        → Contains (form_comparisons flows k [] (cond b (Flow (index_of numbers.flows (place i x))) (Constant (constant_value program x)))) c → IsReadFrom c
    named_none k x true c w = nothing_in c w
    named_none k x false c w = nothing_in c w

    mutual
      -- each comparison of what is read of an expression
      comparison_read : (k : Option ℕ) (e : Tree) (c : Comparison) → Stands i.node e → Contains (comparisons flows k (flat_of program numbers i e)) c
          → IsReadFrom c
      comparison_read k (tree.Node at site (tree.Named x)) c t w = named_none k x (is_flow i.node x) c w
      comparison_read k (tree.Node at site (tree.Not e)) c t w = comparison_read k e c (as_child t of_not) w
      comparison_read k (tree.Node at site (tree.Minus e)) c t w = comparison_read k e c (as_child t of_minus) w
      comparison_read k (tree.Node at site (tree.When e x)) c t w =
          comparison_read (nth_item flows (index_of numbers.flows (place i x.text))).clock e c (as_child t (of_when x)) w
      comparison_read k (tree.Node at site (tree.Binary o a b)) c t w =
          elim (of_operator flows k (operator_place program i site o a) (tick_number numbers (clock_in i Base (tree.Node 0 site (tree.Binary o a b))))
          (flat_of program numbers i a) (flat_of program numbers i b)
          (is_constant (node_scope program i.node) a) (coefficient program a) (coefficient program b) c o w) [
            | inl own ↦ own_read at site o a b k c t own
            | inr parts ↦ elim parts [
              | inl v ↦ comparison_read k a c (as_child t of_left) v
              | inr v ↦ comparison_read k b c (as_child t of_right) v
            ]
          ]
      comparison_read k (tree.Node at site (tree.If a b d)) c t w =
          let f = flat_of program numbers i a in let g = flat_of program numbers i b in let h = flat_of program numbers i d in
          elim (Contains-append_cases (comparisons flows k f) (comparisons flows k g ++ comparisons flows k h) c w) [
            | inl v ↦ comparison_read k a c (as_child t of_condition) v
            | inr rest ↦ elim (Contains-append_cases (comparisons flows k g) (comparisons flows k h) c rest) [
              | inl v ↦ comparison_read k b c (as_child t of_first) v
              | inr v ↦ comparison_read k d c (as_child t of_second) v
            ]
          ]
      comparison_read k (tree.Node at site (tree.AtMostOne es)) c t w = all_read k es c (λ j e arg. as_child t (of_operand j arg)) w
      comparison_read k (tree.Node at site _) c t w = nothing_in c w

      all_read : (k : Option ℕ) (es : Trees) (c : Comparison) → ((j : ℕ) (e : Tree) → IsArgument es j e → Stands i.node e)
          → Contains (comparisons_of flows k (flats_of program numbers i es)) c → IsReadFrom c
      all_read k tree.None c t w = nothing_in c w
      all_read k (tree.More e es) c t w = elim (Contains-append_cases (comparisons flows k (flat_of program numbers i e))
          (comparisons_of flows k (flats_of program numbers i es)) c w) [
            | inl v ↦ comparison_read k e c (t 0 e head) v
            | inr v ↦ all_read k es c (λ j a arg. t (suc j) a (tail arg)) v
          ]

  -- each comparison of what gives a flow
  giver_read : (flows : List Item) (q : Sites) (g : Giver) (c : Comparison) → Gives program main q g
      → Contains (item_comparisons flows (giver_item program numbers g)) c → IsReadFrom c
  giver_read flows q _ c (by_equation i x (Body e) of right at) w = comparison_read flows i of _ e c (body_stands i.node x e right) w
  giver_read flows q _ c (by_call i d j e of called arg at) w = comparison_read flows i of _ e c (argument_stands i.node d j e called arg) w
  giver_read flows q _ c _ w = nothing_in c w

  module _ (s : System) (read : IsTranslated program main numbers s) where
    item_read : (x : Item) (c : Comparison) → Contains (all_items s) x → Contains (item_comparisons s.flows x) c → IsReadFrom c
    item_read x c w v = elim (Contains-append_cases s.flows (memory_items s ++ s.assertions) x w) [
      | inl flow ↦
          let a = at_number s.flows x flow in let r = read.flow a.0 a.1 in
          giver_read s.flows _ r.0 c r.1 (subst (λ (y : Item). Contains (item_comparisons s.flows y) c) (sym a.2 ∙ r.2) v)
      | inr rest ↦ elim (Contains-append_cases (memory_items s) s.assertions x rest) [
        | inl memory ↦
            let a = at_number (memory_items s) x memory in
            let many = length-map s.memories (λ (m : Kept). m.item) in
            let r = read.memory_only a.0 (omega (arith, a.1, many)) in
            comparison_read s.flows r.0 r.2 _ r.1.operand c (operand_stands r.0.node r.1 r.3)
            (subst (λ (y : Item). Contains (item_comparisons s.flows y) c) (sym a.2 ∙ r.4) v)
        | inr assertion ↦
            let a = at_number s.assertions x assertion in let r = read.asserted a.0 a.1 in
            comparison_read s.flows r.0 r.2 _ r.1.body c (as_assertion r.1 r.3)
            (subst (λ (y : Item). Contains (item_comparisons s.flows y) c) (sym a.2 ∙ r.4) v)
      ]
    ]

    -- Each comparison is read from one of an instance.
    pub every_read : (c : Comparison) → Contains (all_comparisons s) c → IsReadFrom c
    every_read c w = let r = of_flat_map (item_comparisons s.flows) (all_items s) c w in item_read r.0 c r.1 r.2

    module _ (well : AreWell program) (named : IsNode program main) where
      -- Comparisons at one place have the same operands.
      pub comparisons_apart : AreApart s
      comparisons_apart c d w v e =
          let x = every_read c w in let y = every_read d v in
          let r = snoc_parts x.i.path y.i.path x.site y.site (sym x.place ∙ e ∙ y.place) in
          let one = same_instance program main well named x.i y.i x.of y.of r.0 in
          let there : Contains (node_parts y.i.node) (tree.Node x.at (Some y.site) (tree.Binary x.operator x.left x.right)) =
          subst (λ (m : ℕ). Contains (node_parts y.i.node) (tree.Node x.at (Some m) (tree.Binary x.operator x.left x.right))) r.1
          (subst (λ (j : Instance). Contains (node_parts j.node) (tree.Node x.at (Some x.site) (tree.Binary x.operator x.left x.right))) one x.there) in
          let same = one_tree y.i.node (well.numbered y.i.node (node_in program main well named y.i y.of)) x.at y.at y.site x.operator y.operator x.left x.right
          y.left y.right there y.there x.compares y.compares in
          let left : x.left ≡ y.left = cc same in
          let right : x.right ≡ y.right = cc same in (
            x.left_is ∙ (λ t. flat_of program numbers (one t) (left t)) ∙ sym y.left_is,
            x.right_is ∙ (λ t. flat_of program numbers (one t) (right t)) ∙ sym y.right_is,
          )
