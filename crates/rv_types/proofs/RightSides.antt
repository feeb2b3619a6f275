-- Where no rule of names is broken, a node's flows differ, and each left side of its equations is a flow with one
-- right side that is no input.
use Rattle.std.proofs.Common.{◌≡◌, ◌⊎◌, inl, inr, ℕ, ◌<◌, true, List, [], ◌∷◌, ◌++◌, flat_map, length, get_or, sym, ◌∙◌, ap, subst, arith, Some}
use Rattle.std.proofs.lemmas.List.Elements.{Contains-append_left, Contains-append_right, Contains-append_cases}
use Rattle.std.proofs.{lemmas.Bool.or_right, lemmas.List.length-map, lemmas.List.get_or_default}
use Rattle.std.specs.List.{Contains}
use Rattle.rv_tree.specs.Tree.{Tree, Node, Call, Trees, EquationTree, NodeTree, ProgramTree}
use Rattle.rv_tree.specs.{declared.tree.Name.Name, declared.tree.Decl.Decl, Places.Identifier, Places.names, Places.flows, Places.is_flow}
use Rattle.rv_types.specs.Names.{texts, is_declared, decl_names, lefts, repeated, undefined_unless, clock_use, use_of, node_uses, equation_uses, assertion_uses}
use Rattle.rv_types.specs.Names.{names_in_node}
use Rattle.rv_types.specs.Instances.{Right, Body, Output, IsRight, alone, in_order}
use Rattle.rv_types.specs.{Firsts.firsts_after, Known.flow_names}
use Rattle.rv_types.proofs.FirstNames.{declared_after, declared_append, repeated_append}
use Rattle.rv_types.proofs.Members.{nothing_in, cons_cases, at_head, in_map, in_flat_map, of_flat_map, among_from, among_contains, not_before, names_apart}
use Rattle.rv_types.proofs.Members.{one_number}
use Rattle.rv_types.proofs.{KnownLaws.flows_are, RightNames.both_empty, RightNames.met, NodeFlows.none_of}
use Rattle.rv_base.proofs.{Lists.from_map, Truths.clash}

-- the groups of faults of a node, of which each is empty
pub record IsNamedNode (p : ProgramTree) (n : NodeTree) : Type 0 where
  pub different : repeated [] (flow_names n) ≡ []
  pub once : repeated (decl_names n.inputs) (lefts n) ≡ []
  pub defined : flat_map (undefined_unless (lefts n)) (decl_names (n.outputs ++ n.locals)) ≡ []
  pub clocks : flat_map (clock_use n) n.locals ≡ []
  pub equations : flat_map (equation_uses p n) n.equations ≡ []
  pub assertions : flat_map (assertion_uses p n) n.assertions ≡ []

pub named_node : (p : ProgramTree) (n : NodeTree) → names_in_node p n ≡ [] → IsNamedNode p n
named_node p n e =
    let whole = both_empty _ _ e in
    let names = both_empty _ _ whole.0 in
    let rest = both_empty _ _ whole.1 in
    let uses = both_empty _ _ rest.1 in
    let flows = both_empty _ _ uses.0 in
    let sides = both_empty _ _ uses.1 in
    record { different = names.0; once = names.1; defined = rest.0; clocks = flows.1; equations = sides.0; assertions = sides.1 }

abbrev lefts_of : EquationTree → List Name
lefts_of q = q.lefts

-- a left side of one of some equations is among all
in_lefts : (qs : List EquationTree) (q : EquationTree) (x : Identifier) → Contains qs q → Contains (texts q.lefts) x → Contains (texts (flat_map lefts_of qs)) x
in_lefts qs q x w v =
    let y = from_map (λ (y : Name). y.text) q.lefts x v in
    subst (Contains (texts (flat_map lefts_of qs))) y.2 (in_map (λ (y : Name). y.text) (flat_map lefts_of qs) y.0 (in_flat_map lefts_of qs q y.0 w y.1))

of_lefts : (qs : List EquationTree) (x : Identifier) → Contains (texts (flat_map lefts_of qs)) x
    → (q : EquationTree) × Contains qs q × Contains (texts q.lefts) x
of_lefts qs x w =
    let y = from_map (λ (y : Name). y.text) (flat_map lefts_of qs) x w in
    let q = of_flat_map lefts_of qs y.0 y.1 in
    (q.0, q.1, subst (Contains (texts q.0.lefts)) y.2 (in_map (λ (y : Name). y.text) q.0.lefts y.0 q.2))

-- where left sides differ, one equation has a name
different_lefts : (before : List Name) (q : EquationTree) (qs : List EquationTree) → repeated before (flat_map lefts_of (q ∷ qs)) ≡ []
    → (repeated before q.lefts ≡ []) × (repeated (firsts_after before q.lefts) (flat_map lefts_of qs) ≡ [])
different_lefts before q qs e = both_empty _ _ (sym (repeated_append before q.lefts (flat_map lefts_of qs)) ∙ e)

-- a name of the first equation is no left side of the others
not_again : (before : List Name) (q r : EquationTree) (qs : List EquationTree) (x : Identifier) → repeated before (flat_map lefts_of (q ∷ qs)) ≡ []
    → Contains (texts q.lefts) x → Contains qs r → Contains (texts r.lefts) x → ⊥
not_again before q r qs x e here w there =
    let absent = not_before (firsts_after before q.lefts) (flat_map lefts_of qs) (different_lefts before q qs e).1 x (in_lefts qs r x w there) in
    clash _ (declared_after before q.lefts x ∙ declared_append before q.lefts x ∙ or_right _ _ (among_from (texts q.lefts) x here)) absent

one_equation : (before : List Name) (qs : List EquationTree) → repeated before (flat_map lefts_of qs) ≡ []
    → (q r : EquationTree) (x : Identifier) → Contains qs q → Contains qs r → Contains (texts q.lefts) x → Contains (texts r.lefts) x → q ≡ r
one_equation before [] e q r x w v here there = nothing_in q w
one_equation before (s ∷ qs) e q r x w v here there = elim (cons_cases s qs q w) [
  | inl first ↦ elim (cons_cases s qs r v) [
    | inl second ↦ sym first ∙ second
    | inr rest ↦ absurd (not_again before s r qs x e (subst (λ (t : EquationTree). Contains (texts t.lefts) x) (sym first) here) rest there)
  ]
  | inr more ↦ elim (cons_cases s qs r v) [
    | inl second ↦ absurd (not_again before s q qs x e (subst (λ (t : EquationTree). Contains (texts t.lefts) x) (sym second) there) more here)
    | inr rest ↦ one_equation (firsts_after before s.lefts) qs (different_lefts before s qs e).1 q r x more rest here there
  ]
]

-- and the left sides of each differ
each_different : (before : List Name) (qs : List EquationTree) → repeated before (flat_map lefts_of qs) ≡ [] → (q : EquationTree) → Contains qs q
    → (names : List Name) × (repeated names q.lefts ≡ [])
each_different before [] e q w = nothing_in q w
each_different before (s ∷ qs) e q w = elim (cons_cases s qs q w) [
  | inl same ↦ (before, subst (λ (t : EquationTree). repeated before t.lefts ≡ []) same (different_lefts before s qs e).0)
  | inr rest ↦ each_different (firsts_after before s.lefts) qs (different_lefts before s qs e).1 q rest
]

pub texts_long : (xs : List Name) → length (texts xs) ≡ length xs
texts_long xs = length-map xs (λ (x : Name). x.text)

pub alone_side : (q : EquationTree) (x : Identifier) → texts q.lefts ≡ x ∷ [] → Contains (texts q.lefts) x
alone_side q x is = subst (λ (l : List Identifier). Contains l x) (sym is) (at_head x [])

pub side_at : (q : EquationTree) (j : ℕ) (x : Identifier) → j < length q.lefts → get_or (texts q.lefts) j [] ≡ x → Contains (texts q.lefts) x
side_at q j x lt is =
    let size = texts_long q.lefts in
    let less : j < length (texts q.lefts) = omega (arith, size, lt) in
    (j, less, get_or_default (texts q.lefts) j x [] less ∙ is)

-- what a left side names
pub record IsLeft (n : NodeTree) (x : Identifier) (r : Right) : Type 0 where
  pub equation : EquationTree
  pub there : Contains n.equations equation
  pub side : Contains (texts equation.lefts) x

pub left_of : (n : NodeTree) (x : Identifier) (r : Right) → IsRight n x r → IsLeft n x r
left_of n x _ (alone q w is) = record { equation = q; there = w; side = alone_side q x is }
left_of n x _ (in_order q at site f args j w right many lt is) = record { equation = q; there = w; side = side_at q j x lt is }

-- an output of a call, of whose expressions there is one
same_output : (a b c d : ℕ) (f g : Identifier) (es fs : Trees) (i j : ℕ) → ◌≡◌ {A = Tree} (Node a (Some b) (Call f es)) (Node c (Some d) (Call g fs)) → i ≡ j
    → ◌≡◌ {A = Right} (Output (record { at = a; site = b; name = f; args = es }) i) (Output (record { at = c; site = d; name = g; args = fs }) j)
same_output a b c d f g es fs i j e same =
    let at : a ≡ c = cc in let site : b ≡ d = cc in let name : f ≡ g = cc in let args : es ≡ fs = cc in
    (λ k. Output (record { at = at k; site = site k; name = name k; args = args k }) (same k))

module _ (p : ProgramTree) (n : NodeTree) (named : IsNamedNode p n) where
  -- the flows of a node are different
  pub flows_apart : (j k : ℕ) → j < k → k < length (flows n) → get_or (flows n) j [] ≡ get_or (flows n) k [] → ⊥
  flows_apart = subst (λ (l : List Identifier). (j k : ℕ) → j < k → k < length l → get_or l j [] ≡ get_or l k [] → ⊥) (flows_are n)
      (names_apart [] (flow_names n) named.different)

  -- the uses in an equation
  pub sides_known : (q : EquationTree) → Contains n.equations q → (flat_map (use_of (is_flow n)) q.lefts ≡ []) × (node_uses p n q.right ≡ [])
  sides_known q w = both_empty _ _ (none_of (equation_uses p n) n.equations q named.equations w)

  -- a left side is a flow
  pub side_flow : (q : EquationTree) (x : Identifier) → Contains n.equations q → Contains (texts q.lefts) x → is_flow n x ≡ true
  side_flow q x w v =
      let y = from_map (λ (y : Name). y.text) q.lefts x v in
      subst (λ z. is_flow n z ≡ true) y.2 (met _ _ (none_of (use_of (is_flow n)) q.lefts y.0 (sides_known q w).0 y.1))

  pub left_flow : (x : Identifier) (r : Right) → IsRight n x r → is_flow n x ≡ true
  left_flow x r w = let l = left_of n x r w in side_flow l.equation x l.there l.side

  -- but no input
  left_no_input : (x : Identifier) (r : Right) → IsRight n x r → Contains (names n.inputs) x → ⊥
  left_no_input x r w input =
      let l = left_of n x r w in
      let absent = not_before (decl_names n.inputs) (lefts n) named.once x (in_lefts n.equations l.equation x l.there l.side) in
      let d = from_map (λ (d : Decl). d.name.text) n.inputs x input in
      let there = in_map (λ (y : Name). y.text) (decl_names n.inputs) d.0.name (in_map (λ (d : Decl). d.name) n.inputs d.0 d.1) in
      clash _ (among_from (texts (decl_names n.inputs)) x (subst (Contains (texts (decl_names n.inputs))) d.2 there)) absent

  pub left_is : (x : Identifier) (r : Right) → IsRight n x r → Contains (flows n) x × (Contains (names n.inputs) x → ⊥)
  left_is x r w = (among_contains (flows n) x (left_flow x r w), left_no_input x r w)

  -- a flow that is no input is a left side
  defined_by : (ds : List Decl) (x : Identifier) → ((d : Decl) → Contains ds d → Contains (n.outputs ++ n.locals) d) → Contains (names ds) x
      → (q : EquationTree) × Contains n.equations q × Contains (texts q.lefts) x
  defined_by ds x within w =
      let d = from_map (λ (d : Decl). d.name.text) ds x w in
      let y = in_map (λ (d : Decl). d.name) (n.outputs ++ n.locals) d.0 (within d.0 d.1) in
      of_lefts n.equations x
      (among_contains (texts (lefts n)) x (subst (λ z. is_declared (lefts n) z ≡ true) d.2
      (met _ _ (none_of (undefined_unless (lefts n)) (decl_names (n.outputs ++ n.locals)) d.0.name named.defined y))))

  pub given_or_left : (x : Identifier) → Contains (flows n) x → Contains (names n.inputs) x
      ⊎ ((q : EquationTree) × Contains n.equations q × Contains (texts q.lefts) x)
  given_or_left x w = elim (Contains-append_cases (names n.inputs ++ names n.outputs) (names n.locals) x w) [
    | inl front ↦ elim (Contains-append_cases (names n.inputs) (names n.outputs) x front) [
      | inl input ↦ inl input
      | inr output ↦ inr (defined_by n.outputs x (λ d v. Contains-append_left n.outputs n.locals d v) output)
    ]
    | inr local ↦ inr (defined_by n.locals x (λ d v. Contains-append_right n.outputs n.locals d v) local)
  ]

  same_equation : (q r : EquationTree) (x : Identifier) → Contains n.equations q → Contains n.equations r → Contains (texts q.lefts) x
      → Contains (texts r.lefts) x → q ≡ r
  same_equation = one_equation (decl_names n.inputs) n.equations named.once

  alone_not_many : (q r : EquationTree) (x : Identifier) → texts q.lefts ≡ x ∷ [] → 1 < length r.lefts → q ≡ r → ⊥
  alone_not_many q r x is many same =
      let size = texts_long q.lefts in
      let one = ap length is in
      let sides = ap (λ (t : EquationTree). length t.lefts) same in
      absurd (omega (arith, size, one, many, sides))

  -- what gives a flow its value is one right side
  pub one_right : (x : Identifier) (r s : Right) → IsRight n x r → IsRight n x s → r ≡ s
  one_right x _ _ (alone q w is) (alone r v also) =
      ap (λ (t : EquationTree). Body t.right) (same_equation q r x w v (alone_side q x is) (alone_side r x also))
  one_right x _ _ (alone q w is) (in_order r at site f args j v right many lt also) =
      absurd (alone_not_many q r x is many (same_equation q r x w v (alone_side q x is) (side_at r j x lt also)))
  one_right x _ _ (in_order r at site f args j v right many lt also) (alone q w is) =
      absurd (alone_not_many q r x is many (same_equation q r x w v (alone_side q x is) (side_at r j x lt also)))
  one_right x _ _ (in_order q a b f es i w right many lt is) (in_order r c d g fs j v other more less also) =
      let same : q ≡ r = same_equation q r x w v (side_at q i x lt is) (side_at r j x less also) in
      let names = each_different (decl_names n.inputs) n.equations named.once q w in
      let size = texts_long q.lefts in
      let sides = ap (λ (t : EquationTree). length t.lefts) same in
      same_output a b c d f g es fs i j (sym right ∙ ap (λ (t : EquationTree). t.right) same ∙ other)
      (one_number names.0 q.lefts names.1 i j (omega (arith, size, lt)) (omega (arith, size, sides, less))
      (is ∙ sym also ∙ sym (ap (λ (t : EquationTree). get_or (texts t.lefts) j []) same)))
