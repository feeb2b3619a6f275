-- The nodes of a program that keeps every rule are well formed and well typed.
use Rattle.std.proofs.Common.{◌≡◌, ◌⊎◌, inl, inr, ℕ, zero, suc, ◌+◌, ◌<◌, Bool, true, false, cond, ◌||◌, List, [], ◌∷◌, ◌++◌, map, flat_map, reverse, length}
use Rattle.std.proofs.Common.{get_or, refl, sym, ◌∙◌, ap, subst, arith, Option, Some, is_some, slice_get, append_assoc, None as Nothing}
use Rattle.std.proofs.lemmas.List.{length-map, get_or-map, get_or_append_left}
use Rattle.std.specs.List.{Contains}
use Rattle.rv_tree.specs.Tree.{Tree, Node, Call, Trees, EquationTree, AssertionTree, NodeTree, ProgramTree}
use Rattle.rv_tree.specs.Places.{Identifier, names, flows, site_of, is_same, index_of}
use Rattle.rv_tree.specs.{Delays.Delay, Delays.IsNumbered, Delays.node_delays, declared.tree.Name.Name, declared.tree.Decl.Decl}
use Rattle.rv_types.specs.Names.{texts, is_declared, constant_names, label_names, constant_uses, name_faults}
use Rattle.rv_types.specs.Scopes.{constant_kind, node_scope, left_kinds, sides_clash, constant_types, types_in_node, type_faults}
use Rattle.rv_types.specs.Clocks.{base_clock, declared_clock, seen, meet, clash_in, pace, own_clash, expression_clocks, left_pace, equation_clocks}
use Rattle.rv_types.specs.Clocks.{assertion_clocks, clocks_in_node, clock_faults}
use Rattle.rv_types.specs.Instances.{CallTree, calls, Right, Body, Output, IsRight, alone, in_order, IsArgument, clock_of, clock_of_args, taken, node_of}
use Rattle.rv_types.specs.{WellFormed.Suits, WellFormed.IsWellFormed, WellFormed.IsWellTyped, WellFormed.AreWell, declared.fault.Pace.TheVariants.Free}
use Rattle.rv_types.specs.{declared.fault.Pace.TheVariants.At, declared.typed.Kind.Kind, declared.typed.Clock.Clock, declared.typed.Clock.TheVariants.Base}
use Rattle.rv_types.specs.{Parts.offset_of, Kinds.decl_kinds, Kinds.flow_kind, Types.kind_of, Types.kinds_of_all, declared.fault.Pace.Pace, ToldPaces.IsTimed}
use Rattle.rv_types.proofs.Members.{nothing_in, cons_cases, stands_at, text_itself}
use Rattle.rv_types.proofs.RightSides.{IsNamedNode, named_node, flows_apart, side_flow, left_is, given_or_left, one_right, sides_known, texts_long, alone_side}
use Rattle.rv_types.proofs.RightSides.{side_at}
use Rattle.rv_types.proofs.NodeKinds.{the_some, fit_long, fit_at, typed_at, argument_there, argument_kind, IsTypedNode, typed_node, flow_typed, IsSided, single}
use Rattle.rv_types.proofs.NodeKinds.{several, equation_sided, several_call, assertion_typed, calls_fit, delays_typed, clock_typed, sides_typed}
use Rattle.rv_types.proofs.PartFaults.{IsRightCall, calls_right, delays_right, argument_right}
use Rattle.rv_types.proofs.Paces.{paced, argument_takes, sides_take, call_takes}
use Rattle.rv_types.proofs.{RightNames.both_empty, NodeFlows.none_of, NodeFlows.node_right, CallSites.has_sites, CallSites.one_call, CallSites.right_site}
use Rattle.rv_types.proofs.{ConstantKinds.IsRising, ConstantKinds.constants_known, ConstantContents.contents, CallsWithin.of_node, CallsWithin.delay_of_node}

-- Inputs come first, and stand on the base clock.

pub index_front : (xs ys : List Identifier) (x : Identifier) → Contains xs x → index_of (xs ++ ys) x < length xs
index_front [] ys x w = nothing_in x w
index_front (z ∷ xs) ys x w = by (is_same z x) refl (cons_cases z xs x w) (index_front xs ys x)
  where
    by : (b : Bool) → is_same z x ≡ b → (z ≡ x) ⊎ Contains xs x → (Contains xs x → index_of (xs ++ ys) x < length xs)
        → cond b 0 (index_of (xs ++ ys) x + 1) < suc (length xs)
    by true is v more = omega arith
    by false is (inl same) more = absurd (let yes : is_same z x ≡ true = ap (is_same z) (sym same) ∙ text_itself z in let no : ⊥ = cc in no)
    by false is (inr rest) more = let lt = more rest in omega (arith, lt)

pub base_at : (ds : List Decl) (i : ℕ) → get_or (map base_clock ds) i Base ≡ Base
base_at [] i = refl
base_at (d ∷ ds) zero = refl
base_at (d ∷ ds) (suc i) = base_at ds i

input_clock : (n : NodeTree) (x : Identifier) → Contains (names n.inputs) x → clock_of n x ≡ Base
input_clock n x w =
    ap (λ (l : List Clock). get_or l (site_of n x) Base) (append_assoc (map base_clock n.inputs) (map base_clock n.outputs)
    (map (λ (d : Decl). declared_clock n d.clock) n.locals))
    ∙ get_or_append_left (map base_clock n.inputs) (map base_clock n.outputs ++ map (λ (d : Decl). declared_clock n d.clock) n.locals) Base (site_of n x)
    (omega (arith, lt, size, many, at)) ∙ base_at n.inputs (site_of n x)
  where
    lt : index_of (names n.inputs ++ (names n.outputs ++ names n.locals)) x < length (names n.inputs)
    lt = index_front (names n.inputs) (names n.outputs ++ names n.locals) x w

    at : site_of n x ≡ index_of (names n.inputs ++ (names n.outputs ++ names n.locals)) x
    at = ap (λ (l : List Identifier). index_of l x) (append_assoc (names n.inputs) (names n.outputs) (names n.locals))

    size : length (map base_clock n.inputs) ≡ length n.inputs
    size = length-map n.inputs base_clock

    many : length (names n.inputs) ≡ length n.inputs
    many = length-map n.inputs (λ (d : Decl). d.name.text)

-- what has a clock and takes one suits it
suits : (k : Clock) (p : Pace) → IsTimed p → taken k p ≡ k → Suits k p
suits k Free h e = tt
suits k (At c) h e = e
suits k _ h e = h

grounded_suits : (p : Pace) → IsTimed p → Suits (taken Base p) p
grounded_suits Free h = tt
grounded_suits (At c) h = refl
grounded_suits _ h = h

name_of_call : (a b : ℕ) (s t : Option ℕ) (f g : Identifier) (es fs : Trees) → ◌≡◌ {A = Tree} (Node a s (Call f es)) (Node b t (Call g fs)) → f ≡ g
name_of_call a b s t f g es fs e = cc

module _ (p : ProgramTree) (constants : (x : Identifier) → (is_declared (constant_names p) x || is_declared (label_names p) x) ≡ true
    → is_some (constant_kind p x) ≡ true)
    (n : NodeTree) (named : IsNamedNode p n) (typed : IsTypedNode p n) (clocked : clocks_in_node n ≡ []) (numbered : IsNumbered n)
  where
    -- the faults of clocks, of which there are none
    sides_clocked : (flat_map (equation_clocks n) n.equations ≡ []) × (flat_map (assertion_clocks n) n.assertions ≡ [])
    sides_clocked = both_empty _ _ (both_empty _ _ clocked).1

    equation_clocked : (q : EquationTree) → Contains n.equations q → (expression_clocks n q.right ≡ [])
        × (clash_in (offset_of q.right) (meet (left_pace n q.lefts) (seen (pace n q.right))) ≡ [])
    equation_clocked q w = both_empty _ _ (none_of (equation_clocks n) n.equations q sides_clocked.0 w)

    assertion_clocked : (a : AssertionTree) → Contains n.assertions a → expression_clocks n a.body ≡ []
    assertion_clocked a w = none_of (assertion_clocks n) n.assertions a sides_clocked.1 w

    calls_clocked : (c : CallTree) → Contains (calls n) c → IsRightCall (own_clash n) c
    calls_clocked c w = elim (of_node n c w) [
      | inl v ↦ calls_right _ v.0.right (equation_clocked v.0 v.1).0 c v.2
      | inr v ↦ calls_right _ v.0.body (assertion_clocked v.0 v.1) c v.2
    ]

    delays_clocked : (d : Delay) → Contains (node_delays n) d → expression_clocks n d.operand ≡ []
    delays_clocked d w = elim (delay_of_node n d w) [
      | inl v ↦ delays_right (own_clash n) v.0.right (equation_clocked v.0 v.1).0 d v.2
      | inr v ↦ delays_right (own_clash n) v.0.body (assertion_clocked v.0 v.1) d v.2
    ]

    -- a left side has a right side
    right_of : (q : EquationTree) (x : Identifier) → Contains n.equations q → Contains (texts q.lefts) x → IsSided p constants n named typed q.lefts q.right
        → (r : Right) × IsRight n x r
    right_of q x w v (single y is types clash) =
        let alike : texts q.lefts ≡ y.text ∷ [] = ap texts is in
        elim (cons_cases y.text [] x (subst (λ (l : List Identifier). Contains l x) alike v)) [
          | inl same ↦ (Body q.right, alone q w (alike ∙ ap (λ (z : Identifier). z ∷ []) same))
          | inr none ↦ nothing_in x none
        ]
    right_of q x w v (several at site f es other is below own) =
        let s = right_site n numbered q at site f es w is in
        let size = texts_long q.lefts in
        let lt = v.1 in
        let call = is ∙ ap (λ o. Node at o (Call f es)) s.1 in
        (_, in_order q at s.0 f es v.0 w call (omega (arith, size, lt, other)) (omega (arith, size, lt)) (stands_at (texts q.lefts) x [] v))

    given_or_defined : (x : Identifier) → Contains (flows n) x → Contains (names n.inputs) x ⊎ ((r : Right) × IsRight n x r)
    given_or_defined x w = elim (given_or_left p n named x w) [
      | inl input ↦ inl input
      | inr v ↦ inr (right_of v.0 x v.1 v.2 (equation_sided p constants n named typed v.0 v.1))
    ]

    sides : (q : EquationTree) → Contains n.equations q → (length q.lefts ≡ 1 → ⊥)
        → (at : ℕ) × (site : Option ℕ) × (f : Identifier) × (es : Trees) × (q.right ≡ Node at site (Call f es))
    sides q w other = by (equation_sided p constants n named typed q w)
      where
        by : IsSided p constants n named typed q.lefts q.right → (at : ℕ) × (site : Option ℕ) × (f : Identifier) × (es : Trees)
            × (q.right ≡ Node at site (Call f es))
        by (single y one types clash) = absurd (other (ap length one))
        by (several at site f es many is below own) = (at, site, f, es, is)

    inputs_long : (c : CallTree) → Contains (calls n) c → length (node_of p c.name).inputs ≡ length (kinds_of_all (node_scope p n) c.args)
    inputs_long c w =
        sym (length-map (node_of p c.name).inputs _)
        ∙ fit_long (decl_kinds p (node_of p c.name).inputs) (kinds_of_all (node_scope p n) c.args) (calls_fit p constants n named typed c w).fits

    body_clock : (x : Identifier) (e : Tree) → IsRight n x (Body e) → Suits (clock_of n x) (pace n e)
    body_clock x _ (alone q w is) =
        let h = equation_clocked q w in
        let right = paced n q.right h.0 in
        let side = alone_side q x is in
        suits (clock_of n x) (pace n q.right) right
        (sides_take n (offset_of q.right) q.lefts x (pace n q.right) (side_flow p n named q x w side) side right h.1)

    output_clock : (x : Identifier) (c : CallTree) (j : ℕ) → IsRight n x (Output c j) → clock_of_args n c.args ≡ clock_of n x
    output_clock x _ _ (in_order q at site f args j w right many lt is) =
        let h = equation_clocked q w in
        let call = both_empty _ _ (subst (λ (t : Tree). expression_clocks n t ≡ []) right h.0) in
        let sides = subst (λ (t : Tree). clash_in (offset_of t) (meet (left_pace n q.lefts) (seen (pace n t))) ≡ []) right h.1 in
        let side = side_at q j x lt is in
        call_takes n at q.lefts x args (side_flow p n named q x w side) side call.1 call.0 sides

    pub well_formed : IsWellFormed p n
    well_formed = record {
      once = flows_apart p n named;
      given_or_defined = given_or_defined;
      left = left_is p n named;
      one_right = one_right p n named;
      sides = sides;
      known = λ c w. (calls_fit p constants n named typed c w).known;
      sites = one_call n (has_sites n numbered);
      enough = λ c j w lt. argument_there (node_scope p n) c.args j (let size = inputs_long c w in omega (arith, size, lt));
      no_more = λ c j e w v. let lt = (argument_kind (node_scope p n) c.args j e v).0 in let size = inputs_long c w in omega (arith, size, lt);
      base = input_clock n;
      body_clock = body_clock;
      output_clock = output_clock;
      argument_clock = λ c j e w v. let h = calls_clocked c w in suits (clock_of_args n c.args) (pace n e)
          (paced n e (argument_right (own_clash n) c.args j e h.below v)) (argument_takes n c.at c.args j e h.here h.below v);
      delay_clock = λ d w. grounded_suits (pace n d.operand) (paced n d.operand (delays_clocked d w));
      assertion_clock = λ a w. grounded_suits (pace n a.body) (paced n a.body (assertion_clocked a w));
    }

    body_typed : (x : Identifier) (e : Tree) → IsRight n x (Body e) → (k : Kind) × (kind_of (node_scope p n) e ≡ Some k) × (flow_kind p n x ≡ Some k)
    body_typed x _ (alone q w is) = by (equation_sided p constants n named typed q w)
      where
        by : IsSided p constants n named typed q.lefts q.right → (k : Kind) × (kind_of (node_scope p n) q.right ≡ Some k) × (flow_kind p n x ≡ Some k)
        by (single y one types clash) =
            let same : y.text ≡ x = ap (λ (l : List Identifier). get_or l 0 []) (sym (ap texts one) ∙ is) in
            let flow = side_flow p n named q x w (alone_side q x is) in
            sides_typed p constants n named typed (offset_of q.right) x q.right flow types (sides_known p n named q w).1
            (subst (λ (z : Identifier). sides_clash (offset_of q.right) (flow_kind p n z) (kind_of (node_scope p n) q.right) ≡ []) same clash)
        by (several at site f es other call below own) = absurd (other (sym (texts_long q.lefts) ∙ ap length is))

    output_typed : (x : Identifier) (c : CallTree) (j : ℕ) → IsRight n x (Output c j)
        → (k : Kind) × (slice_get (decl_kinds p (node_of p c.name).outputs) j ≡ Some k) × (flow_kind p n x ≡ Some k)
    output_typed x _ _ (in_order q at site f args j w right many lt is) = by (equation_sided p constants n named typed q w)
      where
        by : IsSided p constants n named typed q.lefts q.right
            → (k : Kind) × (slice_get (decl_kinds p (node_of p f).outputs) j ≡ Some k) × (flow_kind p n x ≡ Some k)
        by (single y one types clash) = absurd (let size = ap length one in omega (arith, size, many))
        by (several a s g es other call below own) =
            let fits = (several_call p constants n named typed q a s g es w call below own).1 in
            let same : g ≡ f = name_of_call a at s (Some site) g f es args (sym call ∙ right) in
            let k = the_some (flow_kind p n x) (flow_typed p constants n named typed x (side_flow p n named q x w (side_at q j x lt is))) in
            let none : Name = record { text = []; at = 0 } in
            let text : (get_or q.lefts j none).text ≡ x = sym (get_or-map (λ (y : Name). y.text) q.lefts j none [] lt) ∙ is in
            let left : get_or (left_kinds p n q.lefts) j Nothing ≡ Some k.0 = get_or-map (λ (y : Name). flow_kind p n y.text) q.lefts j none Nothing lt
            ∙ ap (flow_kind p n) text ∙ k.1 in
            let size : length (left_kinds p n q.lefts) ≡ length q.lefts = length-map q.lefts (λ (y : Name). flow_kind p n y.text) in
            let given = fit_at (decl_kinds p (node_of p g).outputs) (left_kinds p n q.lefts) j k.0 fits (omega (arith, size, lt)) left in
            (k.0, subst (λ (g : Identifier). slice_get (decl_kinds p (node_of p g).outputs) j ≡ Some k.0) same given, k.1)

    argument_typed : (c : CallTree) (j : ℕ) (e : Tree) → Contains (calls n) c → IsArgument c.args j e
        → (k : Kind) × (kind_of (node_scope p n) e ≡ Some k) × (slice_get (decl_kinds p (node_of p c.name).inputs) j ≡ Some k)
    argument_typed c j e w v =
        let h = calls_fit p constants n named typed c w in
        let a = argument_kind (node_scope p n) c.args j e v in
        let k = the_some (get_or (kinds_of_all (node_scope p n) c.args) j Nothing) (typed_at (kinds_of_all (node_scope p n) c.args) j h.typed a.0) in
        (k.0, sym a.1 ∙ k.1, fit_at (decl_kinds p (node_of p c.name).inputs) (kinds_of_all (node_scope p n) c.args) j k.0 h.fits a.0 k.1)

    pub well_typed : IsWellTyped p n
    well_typed = record {
      body = body_typed;
      output = output_typed;
      argument = argument_typed;
      assertion = assertion_typed p constants n named typed;
      clock = clock_typed p constants n named typed;
      delay = delays_typed p constants n named typed;
    }

-- the uses in the constants of a program
constant_uses_right : (p : ProgramTree) → name_faults p ≡ [] → flat_map (constant_uses p) p.constants ≡ []
constant_uses_right p e =
    let uses = both_empty _ _ (both_empty _ _ e).1 in
    (both_empty _ _ uses.0).1

module _ (p : ProgramTree) (rising : IsRising p) (numbered : (n : NodeTree) → Contains p.nodes n → IsNumbered n) (names_right : name_faults p ≡ [])
    (types_right : type_faults p ≡ []) (clocks_right : clock_faults p ≡ []) where
  types_parts : (constant_types p (reverse p.constants) ≡ []) × (flat_map (types_in_node p) p.nodes ≡ [])
  types_parts = both_empty _ _ types_right

  known : (x : Identifier) → (is_declared (constant_names p) x || is_declared (label_names p) x) ≡ true → is_some (constant_kind p x) ≡ true
  known = constants_known p rising (constant_uses_right p names_right) types_parts.0

  named : (n : NodeTree) → Contains p.nodes n → IsNamedNode p n
  named n w = named_node p n (node_right p names_right n w)

  typed : (n : NodeTree) → Contains p.nodes n → IsTypedNode p n
  typed n w = typed_node p n (none_of (types_in_node p) p.nodes n types_parts.1 w)

  -- a program that keeps every rule
  pub are_well : AreWell p
  are_well = record {
    numbered = numbered;
    formed = λ n w. well_formed p known n (named n w) (typed n w) (none_of clocks_in_node p.nodes n clocks_right w) (numbered n w);
    typed = λ n w. well_typed p known n (named n w) (typed n w) (none_of clocks_in_node p.nodes n clocks_right w) (numbered n w);
    values = contents p;
  }
