-- Which expressions are too wide does not depend on the choice of the weights.
use Rattle.std.proofs.Common.{◌≡◌, ℕ, inl, inr, cond, nat_lt, List, [], ◌∷◌, ◌++◌, length, refl, sym, ap, subst, arith, Option, unwrap_or}
use Rattle.std.proofs.lemmas.List.Elements.{Contains-append_left, Contains-append_right, Contains-append_cases}
use Rattle.std.specs.List.{Contains, flat_map}
use Rattle.rv_tree.specs.Tree.{Tree, Node, Form, Not, Minus, Pre, Current, When, Binary, If, AtMostOne, Call, Trees, None, More, EquationTree, AssertionTree}
use Rattle.rv_tree.specs.Tree.{ProgramTree}
use Rattle.rv_tree.specs.{declared.tree.Name.Name, Places.Identifier, Places.Sites}
use Rattle.rv_types.specs.declared.typed.Kind.TheVariants as kind
use Rattle.rv_types.specs.Instances.{CallTree, calls, calls_in, form_calls, calls_in_all, calls_in_equations, calls_in_assertions, alone, Instance, IsInstance}
use Rattle.rv_types.specs.Instances.{IsFlow}
use Rattle.rv_types.specs.{Names.texts, Needs.IsSequence, Scopes.node_scope, Variables.parts, Variables.form_parts, Variables.parts_of_all}
use Rattle.rv_instances.specs.Weights.{weight, too_wide, weighed_of_several, weighed_under, weighed, AreWeights, IsTooWide, AreLight, IsFirstTooWide}
use Rattle.rv_instances.specs.{declared.answer.Instance.Instance as Numbered, Expanded.IsExpanded}
use Rattle.rv_sequence.specs.Sided.{AreSided}
use Rattle.rv_base.specs.Limits.{heaviest}
use Rattle.rv_instances.proofs.{CallsInside.calls_nested, ExpandedLaws.node_in}
use Rattle.rv_types.proofs.TypedParts.{IsTyped, parts_typed, right_calls, argument_part}
use Rattle.rv_types.proofs.{Members.cons_cases, Members.nothing_in, Members.of_flat_map, CallsWithin.in_argument, CallsWithin.in_body}
use Rattle.rv_sequence.proofs.{WeightFlows.IsInside, WeightFlows.reads_flows, WeightFlows.one_weight, WeightReads.same_weight}

-- The calls of a part are calls of the whole.
mutual
  parts_inside : (e t : Tree) → Contains (parts e) t → (c : CallTree) → Contains (calls_in t) c → Contains (calls_in e) c
  parts_inside (Node at site form) t v c w = elim (cons_cases (Node at site form) (form_parts form) t v) [
    | inl same ↦ subst (λ (e : Tree). Contains (calls_in e) c) (sym same) w
    | inr rest ↦ form_inside at site form t rest c w
  ]

  form_inside : (at : ℕ) (site : Option ℕ) (form : Form) (t : Tree) → Contains (form_parts form) t → (c : CallTree) → Contains (calls_in t) c
      → Contains (form_calls at site form) c
  form_inside at site (Not e) t v c w = parts_inside e t v c w
  form_inside at site (Minus e) t v c w = parts_inside e t v c w
  form_inside at site (Pre e) t v c w = parts_inside e t v c w
  form_inside at site (Current e) t v c w = parts_inside e t v c w
  form_inside at site (When e x) t v c w = parts_inside e t v c w
  form_inside at site (Binary o a b) t v c w = elim (Contains-append_cases (parts a) (parts b) t v) [
    | inl u ↦ Contains-append_left (calls_in a) (calls_in b) c (parts_inside a t u c w)
    | inr u ↦ Contains-append_right (calls_in a) (calls_in b) c (parts_inside b t u c w)
  ]
  form_inside at site (If i a b) t v c w = elim (Contains-append_cases (parts i) (parts a ++ parts b) t v) [
    | inl u ↦ Contains-append_left (calls_in i) (calls_in a ++ calls_in b) c (parts_inside i t u c w)
    | inr u ↦ Contains-append_right (calls_in i) (calls_in a ++ calls_in b) c (elim (Contains-append_cases (parts a) (parts b) t u) [
      | inl r ↦ Contains-append_left (calls_in a) (calls_in b) c (parts_inside a t r c w)
      | inr r ↦ Contains-append_right (calls_in a) (calls_in b) c (parts_inside b t r c w)
    ])
  ]
  form_inside at site (AtMostOne es) t v c w = all_inside es t v c w
  form_inside at site (Call f es) t v c w = Contains-append_right (record { at = at; site = unwrap_or site 0; name = f; args = es } ∷ []) (calls_in_all es) c
      (all_inside es t v c w)
  form_inside at site _ t v c w = nothing_in t v

  all_inside : (es : Trees) (t : Tree) → Contains (parts_of_all es) t → (c : CallTree) → Contains (calls_in t) c → Contains (calls_in_all es) c
  all_inside None t v c w = nothing_in t v
  all_inside (More e es) t v c w = elim (Contains-append_cases (parts e) (parts_of_all es) t v) [
    | inl u ↦ Contains-append_left (calls_in e) (calls_in_all es) c (parts_inside e t u c w)
    | inr u ↦ Contains-append_right (calls_in e) (calls_in_all es) c (all_inside es t u c w)
  ]

-- the same offsets are too wide
pub too_same : (w u : Tree → ℕ) (es : List Tree) → ((e : Tree) → Contains es e → w e ≡ u e) → too_wide w es ≡ too_wide u es
too_same w u [] same = refl
too_same w u (Node at site form ∷ es) same =
    (λ i. cond (nat_lt heaviest (same (Node at site form) (0, omega arith, refl) i)) (at ∷ []) []
    ++ too_same w u es (λ e v. same e (Contains-append_right (Node at site form ∷ []) es e v)) i)

module _ (p : ProgramTree) (main : Identifier) (instances : List Numbered) (known : IsExpanded p main instances) (sided : AreSided p) (i : Instance)
    (is : IsInstance p main i) where
  -- What has a weight in an instance: it has a type, and its calls are calls of the node.
  pub record IsWeighed (t : Tree) : Type 0 where
    pub typed : IsTyped (node_scope p i.node) t
    pub inside : IsInside p i (IsFlow p main) (calls_in t)

  part_of : (e t : Tree) → IsTyped (node_scope p i.node) e → IsInside p i (IsFlow p main) (calls_in e) → Contains (parts e) t → IsWeighed t
  part_of e t w v u = record { typed = parts_typed (node_scope p i.node) e w t u; inside = λ c r. v c (parts_inside e t u c r) }

  in_equation : (q : EquationTree) (t : Tree) → Contains i.node.equations q → Contains (weighed_under q.lefts q.right) t → IsWeighed t
  in_equation q t w u = by_lefts q.lefts refl u
    where
      inside : (c : CallTree) → Contains (calls_in q.right) c → Contains (calls i.node) c
      inside c r = Contains-append_left (calls_in_equations i.node.equations) (calls_in_assertions i.node.assertions) c (right_calls i.node.equations q c w r)

      several : (length q.lefts ≡ 1 → ⊥) → Contains (weighed_of_several q.right) t → IsWeighed t
      several other u =
          let call = sided i.node (node_in p main instances known i is) q w other in
          let c : CallTree = record { at = call.0; site = unwrap_or call.1 0; name = call.2; args = call.3 } in
          let there : Contains (calls i.node) c = inside c (subst (λ (e : Tree). Contains (calls_in e) c) (sym call.4) (0, omega arith, refl)) in
          let part : Contains (parts_of_all call.3) t = subst (λ (e : Tree). Contains (weighed_of_several e) t) call.4 u in
          let a = argument_part call.3 t part in
          let typed = (known.well.typed i.node (node_in p main instances known i is)).argument c a.0 a.1 there a.2 in
          part_of a.1 t (typed.0, typed.1) (λ d r. calls_nested i.node c d there (in_argument call.3 a.0 a.1 d a.2 r)) a.3

      by_lefts : (ls : List Name) → q.lefts ≡ ls → Contains (weighed_under ls q.right) t → IsWeighed t
      by_lefts (x ∷ []) e u =
          let typed = (known.well.typed i.node (node_in p main instances known i is)).body x.text q.right (alone q w (ap texts e)) in
          part_of q.right t (typed.0, typed.1) inside u
      by_lefts _ e u = several (λ one. omega (arith, ap length e, one)) u

  in_assertion : (a : AssertionTree) (t : Tree) → Contains i.node.assertions a → Contains (parts a.body) t → IsWeighed t
  in_assertion a t w u =
      let typed = (known.well.typed i.node (node_in p main instances known i is)).assertion a w in
      part_of a.body t (kind.Bool, typed) (λ c r. Contains-append_right (calls_in_equations i.node.equations) (calls_in_assertions i.node.assertions) c
      (in_body i.node.assertions a c w r)) u

  pub is_weighed : (t : Tree) → Contains (weighed i.node) t → IsWeighed t
  is_weighed t u = elim (Contains-append_cases (flat_map (λ (q : EquationTree). weighed_under q.lefts q.right) i.node.equations)
      (flat_map (λ (a : AssertionTree). parts a.body) i.node.assertions) t u) [
        | inl v ↦ let q = of_flat_map (λ (q : EquationTree). weighed_under q.lefts q.right) i.node.equations t v in in_equation q.0 t q.1 q.2
        | inr v ↦ let a = of_flat_map (λ (a : AssertionTree). parts a.body) i.node.assertions t v in in_assertion a.0 t a.1 a.2
      ]

module _ (p : ProgramTree) (main : Identifier) (instances : List Numbered) (known : IsExpanded p main instances) (sided : AreSided p) (sequence : List Sites)
    (ordered : IsSequence p main sequence) where
  pub wide_in_both : (flows others : Sites → ℕ) (at : ℕ) → AreWeights p main flows → AreWeights p main others → IsTooWide p main flows at
      → IsTooWide p main others at
  wide_in_both flows others at f g (inl constant) = inl constant
  wide_in_both flows others at f g (inr w) =
      let i = w.0 in
      let same : too_wide (weight p flows i) (weighed i.node) ≡ too_wide (weight p others i) (weighed i.node) =
      too_same (weight p flows i) (weight p others i) (weighed i.node) (λ t u.
      let v = is_weighed p main instances known sided i w.1 t u in
      same_weight p i (IsFlow p main) flows others (λ q is. one_weight p main instances known sequence ordered flows others f g q is) t
      (reads_flows p main instances known i t w.1 v.typed v.inside)) in
      inr (i, w.1, subst (λ l. Contains l at) same w.2)

  pub not_both : (at : ℕ) → AreLight p main → IsFirstTooWide p main at → ⊥
  not_both at light first = light.2 at (wide_in_both first.0 light.0 at first.1 light.1 first.2)

  pub one_first : (at later : ℕ) → IsFirstTooWide p main at → IsFirstTooWide p main later → at ≡ later
  one_first at later f g = omega (arith, f.3 later (wide_in_both g.0 f.0 later g.1 f.1 g.2), g.3 at (wide_in_both f.0 g.0 at f.1 g.1 f.2))
