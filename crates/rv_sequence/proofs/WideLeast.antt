-- The least offset of what is too wide.
use Rattle.std.proofs.Common.{◌≡◌, ℕ, zero, suc, ◌<◌, ◌≤◌, ◌⊎◌, inl, inr, min, Bool, true, false, cond, nat_lt, List, [], ◌∷◌, ◌++◌, length, reverse, refl, sym}
use Rattle.std.proofs.Common.{◌∙◌, ap, subst, arith, Option, Some, None as Nothing}
use Rattle.std.proofs.{lemmas.Bool.cases_eq, lemmas.Bool.Decides.nat_tests, lemmas.List.append_assoc, lemmas.List.Elements.Contains-append_right}
use Rattle.std.specs.List.{Contains, flat_map}
use Rattle.rv_base.specs.{declared.value.Value.Value, Limits.too_heavy, Limits.heaviest}
use Rattle.rv_tree.specs.Tree.{Tree, Node, Form, Not, Minus, Pre, Current, When, Binary, If, AtMostOne, Call, Trees, None, More, EquationTree, AssertionTree}
use Rattle.rv_tree.specs.Tree.{ConstantTree, NodeTree, ProgramTree}
use Rattle.rv_tree.specs.{declared.tree.Name.Name, Places.Identifier, Places.Sites}
use Rattle.rv_types.specs.WideConstants.{lesser, wide_at, first_wide, wide_below, first_wide_of_all, first_wide_constant}
use Rattle.rv_types.specs.Variables.{parts, form_parts, parts_of_all}
use Rattle.rv_types.specs.{Constants.weight_of, Constants.form_weight, Instances.Instance, Instances.IsInstance, Needs.IsSequence, Scopes.constant_value}
use Rattle.rv_types.specs.{Scopes.constant_value_after, ValueTables.NamedTables, ValueTables.value_by}
use Rattle.rv_instances.specs.{declared.answer.Instance.Instance as Numbered, declared.layout.Layout.Layout, Expanded.IsExpanded, Layouts.IsNumberOf}
use Rattle.rv_instances.specs.{Layouts.IsLayout, Layouts.node_at, Weights.weight, Weights.too_wide, Weights.weighed_of_several, Weights.weighed_under}
use Rattle.rv_instances.specs.{Weights.weighed, Weights.too_wide_constants, Weights.AreWeights, Weights.IsTooWide, Weights.AreLight, Weights.IsFirstTooWide}
use Rattle.rv_calls.specs.Loops.{AtMost}
use Rattle.rv_sequence.specs.Weighing.{Weighing, weight_in, form_weight_in, first_in, first_below, first_in_all}
use Rattle.rv_sequence.specs.WideNodes.{wide_in_several, wide_in_side, wide_in_equations, wide_in_assertions, wide_in_node, wide_in_first}
use Rattle.rv_sequence.specs.{Sided.AreSided, WeightTables.weighing_at, WeightTables.counted_weight, WeightTables.AreFlowWeights}
use Rattle.rv_instances.proofs.{ExpandedLaws.instance_at, ExpandedLaws.number_at, ExpandedLaws.node_is, Lists.nat_split}
use Rattle.rv_sequence.proofs.{TableWeights.HasWeight, TableWeights.part_weight, WeightFlows.flows_read, WeightFlows.are_weights, WideFlows.is_weighed}
use Rattle.rv_types.proofs.{Members.cons_cases, Members.nothing_in, WideParts.lesser_more}
use Rattle.rv_base.proofs.Truths.{less_told}

-- the least of some offsets
abbrev pub least : List ℕ → Option ℕ
least [] = Nothing
least (k ∷ ks) = lesser (Some k) (least ks)

least_append : (xs ys : List ℕ) → least (xs ++ ys) ≡ lesser (least xs) (least ys)
least_append [] ys = refl
least_append (x ∷ xs) ys = ap (lesser (Some x)) (least_append xs ys) ∙ sym (lesser_more (Some x) (least xs) (least ys))

-- one that stands there is no less
lesser_left : (a b : Option ℕ) (k : ℕ) → AtMost a k → AtMost (lesser a b) k
lesser_left Nothing b k h = absurd h
lesser_left (Some a) Nothing k h = h
lesser_left (Some a) (Some b) k h = omega (arith, h)

lesser_right : (a b : Option ℕ) (k : ℕ) → AtMost b k → AtMost (lesser a b) k
lesser_right Nothing b k h = h
lesser_right (Some a) Nothing k h = absurd h
lesser_right (Some a) (Some b) k h = omega (arith, h)

lesser_either : (a b : Option ℕ) (k : ℕ) → lesser a b ≡ Some k → (a ≡ Some k) ⊎ (b ≡ Some k)
lesser_either Nothing b k e = inr e
lesser_either (Some a) Nothing k e = inl e
lesser_either (Some a) (Some b) k e =
    let same : min a b ≡ k = cc in
    elim (cases_eq a k) [ inl is ↦ inl (ap Some is) | inr other ↦ inr (ap Some (let is : b ≡ k = omega (arith, same, other) in is)) ]

least_below : (xs : List ℕ) (k : ℕ) → Contains xs k → AtMost (least xs) k
least_below [] k w = nothing_in k w
least_below (x ∷ xs) k w = elim (cons_cases x xs k w) [
  | inl same ↦ lesser_left (Some x) (least xs) k (let h : x ≤ k = omega (arith, same) in h)
  | inr rest ↦ lesser_right (Some x) (least xs) k (least_below xs k rest)
]

least_there : (xs : List ℕ) (k : ℕ) → least xs ≡ Some k → Contains xs k
least_there [] k e = cc
least_there (x ∷ xs) k e = elim (lesser_either (Some x) (least xs) k e) [
  | inl here ↦ (0, omega arith, (let same : x ≡ k = cc in same))
  | inr rest ↦ Contains-append_right (x ∷ []) xs k (least_there xs k rest)
]

-- What is too wide among some expressions.

wide_append : (w : Tree → ℕ) (xs ys : List Tree) → too_wide w (xs ++ ys) ≡ too_wide w xs ++ too_wide w ys
wide_append w [] ys = refl
wide_append w (Node at site form ∷ xs) ys =
    ap (λ l. cond (nat_lt heaviest (w (Node at site form))) (at ∷ []) [] ++ l) (wide_append w xs ys)
    ∙ sym (append_assoc (cond (nat_lt heaviest (w (Node at site form))) (at ∷ []) []) (too_wide w xs) (too_wide w ys))

-- the least of them
abbrev pub least_wide : (Tree → ℕ) → List Tree → Option ℕ
least_wide w es = least (too_wide w es)

pub least_both : (w : Tree → ℕ) (xs ys : List Tree) → least_wide w (xs ++ ys) ≡ lesser (least_wide w xs) (least_wide w ys)
least_both w xs ys = ap least (wide_append w xs ys) ∙ least_append (too_wide w xs) (too_wide w ys)

least_first : (w : Tree → ℕ) (at : ℕ) (site : Option ℕ) (form : Form) (es : List Tree)
    → least_wide w (Node at site form ∷ es) ≡ lesser (wide_at at (w (Node at site form))) (least_wide w es)
least_first w at site form es =
    least_append (cond (nat_lt heaviest (w (Node at site form))) (at ∷ []) []) (too_wide w es)
    ∙ ap (λ o. lesser o (least_wide w es)) (by (nat_lt heaviest (w (Node at site form))))
  where
    by : (b : Bool) → least (cond b (at ∷ []) []) ≡ cond b (Some at) Nothing
    by true = refl
    by false = refl

module _ (w : Weighing) where
  mutual
    pub first_least : (e : Tree) → first_in w true e ≡ least_wide (weight_in w) (parts e)
    first_least (Node at site form) = ap (lesser (wide_at at (form_weight_in w site form))) (below_least form)
        ∙ sym (least_first (weight_in w) at site form (form_parts form))

    below_least : (form : Form) → first_below w true form ≡ least_wide (weight_in w) (form_parts form)
    below_least (Not e) = first_least e
    below_least (Minus e) = first_least e
    below_least (Pre e) = first_least e
    below_least (Current e) = first_least e
    below_least (When e c) = first_least e
    below_least (Binary o a b) = (λ i. lesser (first_least a i) (first_least b i)) ∙ sym (least_both (weight_in w) (parts a) (parts b))
    below_least (If c a b) =
        (λ i. lesser (first_least c i) (((λ j. lesser (first_least a j) (first_least b j)) ∙ sym (least_both (weight_in w) (parts a) (parts b))) i))
        ∙ sym (least_both (weight_in w) (parts c) (parts a ++ parts b))
    below_least (AtMostOne es) = all_least es
    below_least (Call f es) = all_least es
    below_least _ = refl

    pub all_least : (es : Trees) → first_in_all w true es ≡ least_wide (weight_in w) (parts_of_all es)
    all_least None = refl
    all_least (More e es) = (λ i. lesser (first_least e i) (all_least es i)) ∙ sym (least_both (weight_in w) (parts e) (parts_of_all es))

  several_least : (e : Tree) → wide_in_several w e ≡ least_wide (weight_in w) (weighed_of_several e)
  several_least (Node at site (Call f es)) = all_least es
  several_least (Node at site form) = first_least (Node at site form)

  side_least : (xs : List Name) (e : Tree) → wide_in_side w xs e ≡ least_wide (weight_in w) (weighed_under xs e)
  side_least (x ∷ []) e = first_least e
  side_least _ e = several_least e

  equations_least : (qs : List EquationTree) → wide_in_equations w qs ≡ least_wide (weight_in w)
      (flat_map (λ (q : EquationTree). weighed_under q.lefts q.right) qs)
  equations_least [] = refl
  equations_least (q ∷ qs) =
      (λ i. lesser (side_least q.lefts q.right i) (equations_least qs i))
      ∙ sym (least_both (weight_in w) (weighed_under q.lefts q.right) (flat_map (λ (q : EquationTree). weighed_under q.lefts q.right) qs))

  assertions_least : (qs : List AssertionTree) → wide_in_assertions w qs ≡ least_wide (weight_in w) (flat_map (λ (a : AssertionTree). parts a.body) qs)
  assertions_least [] = refl
  assertions_least (a ∷ rest) = (λ i. lesser (first_least a.body i) (assertions_least rest i))
      ∙ sym (least_both (weight_in w) (parts a.body) (flat_map (λ (a : AssertionTree). parts a.body) rest))

  pub node_least : (n : NodeTree) → wide_in_node w n ≡ least_wide (weight_in w) (weighed n)
  node_least n =
      (λ i. lesser (equations_least n.equations i) (assertions_least n.assertions i))
      ∙ sym (least_both (weight_in w) (flat_map (λ (q : EquationTree). weighed_under q.lefts q.right) n.equations)
      (flat_map (λ (a : AssertionTree). parts a.body) n.assertions))

-- The same in constants.
module _ (known : Identifier → Value) where
  mutual
    constant_least : (e : Tree) → first_wide known e ≡ least_wide (weight_of known) (parts e)
    constant_least (Node at site form) = ap (lesser (wide_at at (form_weight known form))) (form_least form)
        ∙ sym (least_first (weight_of known) at site form (form_parts form))

    form_least : (form : Form) → wide_below known form ≡ least_wide (weight_of known) (form_parts form)
    form_least (Not e) = constant_least e
    form_least (Minus e) = constant_least e
    form_least (Pre e) = constant_least e
    form_least (Current e) = constant_least e
    form_least (When e c) = constant_least e
    form_least (Binary o a b) = (λ i. lesser (constant_least a i) (constant_least b i)) ∙ sym (least_both (weight_of known) (parts a) (parts b))
    form_least (If c a b) =
        (λ i. lesser (constant_least c i) (((λ j. lesser (constant_least a j) (constant_least b j)) ∙ sym (least_both (weight_of known) (parts a) (parts b)))
        i))
        ∙ sym (least_both (weight_of known) (parts c) (parts a ++ parts b))
    form_least (AtMostOne es) = constants_all_least es
    form_least (Call f es) = constants_all_least es
    form_least _ = refl

    constants_all_least : (es : Trees) → first_wide_of_all known es ≡ least_wide (weight_of known) (parts_of_all es)
    constants_all_least None = refl
    constants_all_least (More e es) = (λ i. lesser (constant_least e i) (constants_all_least es i))
        ∙ sym (least_both (weight_of known) (parts e) (parts_of_all es))

pub constants_least : (p : ProgramTree) (cs : List ConstantTree) → first_wide_constant p cs ≡ least (too_wide_constants p cs)
constants_least p [] = refl
constants_least p (c ∷ cs) =
    (λ i. lesser (constants_least p cs i) (constant_least (constant_value_after p cs) c.body i))
    ∙ sym (least_append (too_wide_constants p cs) (too_wide (weight_of (constant_value_after p cs)) (parts c.body)))

-- Weights that count to 2^40 + 1 tell what is too wide.

lt_false : (a b : ℕ) → b ≤ a → nat_lt a b ≡ false
lt_false a b h = grind (arith, nat_tests)

told_by_count : (v : ℕ) → nat_lt heaviest v ≡ nat_lt heaviest (min v too_heavy)
told_by_count v = elim (nat_split heaviest v) [
  | inl above ↦ less_told heaviest v above ∙ sym (less_told heaviest (min v too_heavy) (omega (arith, above)))
  | inr below ↦ lt_false heaviest v below ∙ sym (lt_false heaviest (min v too_heavy) (omega (arith, below)))
]

wide_counted : (w u : Tree → ℕ) (es : List Tree) → ((e : Tree) → Contains es e → counted_weight (w e) ≡ counted_weight (u e)) → too_wide w es ≡ too_wide u es
wide_counted w u [] same = refl
wide_counted w u (Node at site form ∷ es) same =
    let told = told_by_count (w (Node at site form)) ∙ ap (nat_lt heaviest) (same (Node at site form) (0, omega arith, refl))
    ∙ sym (told_by_count (u (Node at site form))) in
    (λ i. cond (told i) (at ∷ []) [] ++ wide_counted w u es (λ e v. same e (Contains-append_right (Node at site form ∷ []) es e v)) i)

module _ (p : ProgramTree) (main : Identifier) (instances : List Numbered) (known : IsExpanded p main instances) (sided : AreSided p) (l : Layout)
    (laid : IsLayout p main instances l) (values : NamedTables) (named : value_by values ≡ constant_value p) (weights : List ℕ)
    (table : AreFlowWeights p main instances weights) where
  -- the least offset of the constants, and that of the instances
  abbrev in_constants : Option ℕ
  in_constants = first_wide_constant p (reverse p.constants)

  abbrev in_first : ℕ → Option ℕ
  in_first n = wide_in_first p instances values l weights n

  abbrev here : ℕ → Option ℕ
  here m = wide_in_node (weighing_at p instances values l weights m) (node_at p instances m)

  first_below_all : (n m k : ℕ) → m < n → AtMost (here m) k → AtMost (in_first n) k
  first_below_all zero m k lt h = absurd (omega (arith, lt))
  first_below_all (suc n) m k lt h = elim (cases_eq m n) [
    | inl same ↦ lesser_right (in_first n) (here n) k (subst (λ j. AtMost (here j) k) same h)
    | inr other ↦ lesser_left (in_first n) (here n) k (first_below_all n m k (omega (arith, lt, other)) h)
  ]

  first_there : (n k : ℕ) → in_first n ≡ Some k → (m : ℕ) × (m < n) × (here m ≡ Some k)
  first_there zero k e = cc
  first_there (suc n) k e = elim (lesser_either (in_first n) (here n) k e) [
    | inl before ↦ let w = first_there n k before in (w.0, omega (arith, w.1), w.2)
    | inr last ↦ (n, omega arith, last)
  ]

  module _ (flows : Sites → ℕ) (are : AreWeights p main flows) where
    has_all : (q : Sites) → HasWeight p main instances known l laid values named weights flows q
    has_all q k at = table.each flows k are (omega (arith, table.size, at.0)) ∙ ap (λ r. counted_weight (flows r)) at.1

    -- the least offset in an instance
    instance_least : (m : ℕ) (i : Instance) → IsNumberOf p instances m i → IsInstance p main i
        → wide_in_node (weighing_at p instances values l weights m) (node_at p instances m) ≡ least (too_wide (weight p flows i) (weighed i.node))
    instance_least m i at is =
        ap (wide_in_node (weighing_at p instances values l weights m)) (node_is p main instances known m i is at.1)
        ∙ node_least (weighing_at p instances values l weights m) i.node
        ∙ ap least (wide_counted (weight_in (weighing_at p instances values l weights m)) (weight p flows i) (weighed i.node) (λ t u.
        let v = is_weighed p main instances known sided i is t u in
        part_weight p main instances known l laid values named weights flows m i t at is
        (flows_read p i (HasWeight p main instances known l laid values named weights flows) (λ x e. has_all _) (λ c w one. has_all _) t v.typed v.inside)))

    -- what is too wide is no less than the least
    wide_below_least : (k : ℕ) → IsTooWide p main flows k → AtMost (lesser in_constants (in_first (length instances))) k
    wide_below_least k (inl constant) =
        lesser_left in_constants (in_first (length instances)) k
        (subst (λ o. AtMost o k) (sym (constants_least p (reverse p.constants))) (least_below (too_wide_constants p (reverse p.constants)) k constant))
    wide_below_least k (inr w) =
        let n = number_at p main instances known w.0 w.1 in
        lesser_right in_constants (in_first (length instances)) k (first_below_all (length instances) n.0 k n.1
        (subst (λ o. AtMost o k) (sym (instance_least n.0 w.0 (n.1, n.2) w.1)) (least_below (too_wide (weight p flows w.0) (weighed w.0.node)) k w.2)))

    -- and the least is too wide
    least_wide_there : (k : ℕ) → lesser in_constants (in_first (length instances)) ≡ Some k → IsTooWide p main flows k
    least_wide_there k e = elim (lesser_either in_constants (in_first (length instances)) k e) [
      | inl constant ↦ inl (least_there (too_wide_constants p (reverse p.constants)) k (sym (constants_least p (reverse p.constants)) ∙ constant))
      | inr instance ↦
          let w = first_there (length instances) k instance in
          let v = instance_at p main instances known w.0 w.1 in
          inr (v.0, v.1, least_there (too_wide (weight p flows v.0) (weighed v.0.node)) k (sym (instance_least w.0 v.0 (w.1, v.2) v.1) ∙ w.2))
    ]

  module _ (sequence : List Sites) (ordered : IsSequence p main sequence) where
    -- where there is no least offset, no expression is too wide
    pub none_wide : lesser in_constants (in_first (length instances)) ≡ Nothing → AreLight p main
    none_wide e =
        let flows = are_weights p main instances known sequence ordered in
        (flows.0, flows.1, λ at is. subst (λ o. AtMost o at) e (wide_below_least flows.0 flows.1 at is))

    -- otherwise it is that of the first
    pub first_wide_is : (at : ℕ) → lesser in_constants (in_first (length instances)) ≡ Some at → IsFirstTooWide p main at
    first_wide_is at e =
        let flows = are_weights p main instances known sequence ordered in
        (flows.0, flows.1, least_wide_there flows.0 flows.1 at e, λ later is. subst (λ o. AtMost o later) e (wide_below_least flows.0 flows.1 later is))
