-- Where no rule of names and types is broken, the right sides, arguments and assertions of a node have the types that
-- are wanted of them.
use Rattle.std.proofs.Common.{◌≡◌, inl, inr, ℕ, zero, suc, ◌<◌, Bool, true, false, not, cond, ◌&&◌, ◌||◌, List, [], ◌∷◌, map, flat_map, length, get_or, refl}
use Rattle.std.proofs.Common.{sym, ◌∙◌, ap, subst, arith, Option, Some, is_some, slice_get, None as Nothing, unwrap_or}
use Rattle.std.proofs.{lemmas.List.length-map, lemmas.List.length-append, lemmas.Bool.and_parts, lemmas.Option.slice_get-get_or}
use Rattle.std.specs.{Option.option_map, List.Contains}
use Rattle.rv_tree.specs.Tree.{Tree, Node, Call, Trees, None, More, EquationTree, AssertionTree, NodeTree, ProgramTree}
use Rattle.rv_tree.specs.Places.{Identifier, flows, site_of, is_flow, is_same, is_among}
use Rattle.rv_tree.specs.{declared.tree.Name.Name, declared.tree.Decl.Decl, Delays.Delay, Delays.delays, Delays.node_delays}
use Rattle.rv_types.specs.Names.{texts, is_declared, constant_names, label_names, node_names, own_uses, uses, use_of, is_value, node_uses, clock_use}
use Rattle.rv_types.specs.Names.{assertion_uses}
use Rattle.rv_types.specs.Types.{Scope, Signature, suits, all_typed, fit, kind_of, kinds_of_all, own_type_fault, expression_types}
use Rattle.rv_types.specs.Scopes.{constant_kind, value_kind, signature_of, signature_named, node_scope, clash_unless, left_kinds, sides_clash, several_clash}
use Rattle.rv_types.specs.Scopes.{several_types, sides_types, equation_types, assertion_types, clock_types, types_in_node}
use Rattle.rv_types.specs.Instances.{CallTree, calls_in, calls_in_all, calls, IsArgument, head, tail, node_of, no_node}
use Rattle.rv_types.specs.{declared.typed.Kind.Kind, declared.fault.NameFault.NameFault, declared.fault.NameFault.TheVariants.TypeClash, Parts.offset_of}
use Rattle.rv_types.specs.{Parts.faults_of_all, Kinds.decl_kinds, Kinds.flow_kinds, Kinds.flow_kind, Kinds.node_among, Kinds.node_named}
use Rattle.rv_types.proofs.PartFaults.{IsRightCall, calls_right, calls_of_all_right, delays_right, delays_of_all_right}
use Rattle.rv_types.proofs.ExpressionKinds.{IsFitting, call_fits, typed, arguments_typed}
use Rattle.rv_types.proofs.{Members.cons_cases, Members.index_there, CallsWithin.of_node, CallsWithin.delay_of_node, RightNames.both_empty, RightNames.met}
use Rattle.rv_types.proofs.{NodeFlows.none_of, Verdicts.kind_same, RightSides.IsNamedNode, RightSides.sides_known}
use Rattle.rv_types.specs.declared.typed.Kind.TheVariants as kind

-- what is there
pub the_some : {A : Type 0} (o : Option A) → is_some o ≡ true → (a : A) × (o ≡ Some a)
the_some Nothing e = cc
the_some (Some a) e = (a, refl)

-- Operands that fit.

suits_same : (wanted : Kind) (o : Option Kind) (k : Kind) → suits wanted o ≡ true → o ≡ Some k → wanted ≡ k
suits_same wanted Nothing k h e = cc
suits_same wanted (Some j) k h e = let same : j ≡ k = cc in sym (kind_same j wanted h) ∙ same

is_wanted : (at : ℕ) (wanted : Kind) (o : Option Kind) → is_some o ≡ true → clash_unless at wanted o ≡ [] → o ≡ Some wanted
is_wanted at wanted Nothing h e = cc
is_wanted at wanted (Some k) h e = ap Some (kind_same k wanted (met _ _ e))

-- as many, and each of its type
pub fit_long : (ws : List Kind) (ks : List (Option Kind)) → fit ws ks ≡ true → length ws ≡ length ks
fit_long [] [] e = refl
fit_long (w ∷ ws) (k ∷ ks) e = ap suc (fit_long ws ks (and_parts (suits w k) (fit ws ks) e).1)
fit_long _ _ e = cc

pub fit_at : (ws : List Kind) (ks : List (Option Kind)) (j : ℕ) (k : Kind) → fit ws ks ≡ true → j < length ks → get_or ks j Nothing ≡ Some k
    → slice_get ws j ≡ Some k
fit_at [] [] j k e lt is = absurd (omega (arith, lt))
fit_at [] (o ∷ ks) j k e lt is = cc
fit_at (w ∷ ws) [] j k e lt is = cc
fit_at (w ∷ ws) (o ∷ ks) zero k e lt is = slice_get-get_or (w ∷ ws) 0 w (omega arith) ∙ ap Some (suits_same w o k (and_parts (suits w o) (fit ws ks) e).0 is)
fit_at (w ∷ ws) (o ∷ ks) (suc j) k e lt is = fit_at ws ks j k (and_parts (suits w o) (fit ws ks) e).1 (omega (arith, lt)) is

pub typed_at : (ks : List (Option Kind)) (j : ℕ) → all_typed ks ≡ true → j < length ks → is_some (get_or ks j Nothing) ≡ true
typed_at [] j e lt = absurd (omega (arith, lt))
typed_at (Nothing ∷ ks) j e lt = cc
typed_at (Some k ∷ ks) zero e lt = refl
typed_at (Some k ∷ ks) (suc j) e lt = typed_at ks j e (omega (arith, lt))

-- The arguments of a call and their types.

module _ (s : Scope) where
  pub argument_there : (es : Trees) (j : ℕ) → j < length (kinds_of_all s es) → (e : Tree) × IsArgument es j e
  argument_there None j lt = absurd (omega (arith, lt))
  argument_there (More e es) zero lt = (e, head)
  argument_there (More e es) (suc j) lt = let a = argument_there es j (omega (arith, lt)) in (a.0, tail a.1)

  pub argument_kind : (es : Trees) (j : ℕ) (e : Tree) → IsArgument es j e
      → (j < length (kinds_of_all s es)) × (get_or (kinds_of_all s es) j Nothing ≡ kind_of s e)
  argument_kind _ _ e head = (omega arith, refl)
  argument_kind _ _ e (tail {es} {j} w) = let h = argument_kind es j e w in let lt = h.0 in (omega (arith, lt), h.1)

-- Several left sides.

-- a call with a fault neither in its arguments nor of its own, or an expression without one that has no type
pub data IsSeveral (s : Scope) (left : List (Option Kind)) : Tree → Type 0 where
  called : (at : ℕ) (site : Option ℕ) (f : Identifier) (es : Trees) → faults_of_all (own_type_fault s) es ≡ []
      → several_clash at (s.callee f) left (kinds_of_all s es) ≡ [] → IsSeveral s left (Node at site (Call f es))
  untyped : {e : Tree} → expression_types s e ≡ [] → (is_some (kind_of s e) ≡ true → ⊥) → IsSeveral s left e

no_type : (at : ℕ) (b : Bool) → cond b (TypeClash at ∷ []) [] ≡ [] → b ≡ true → ⊥
no_type at true e h = cc
no_type at false e h = cc

several_sides : (s : Scope) (left : List (Option Kind)) (e : Tree) → several_types s left e ≡ [] → IsSeveral s left e
several_sides s left (Node at site (Call f es)) e = let h = both_empty _ _ e in called at site f es h.0 h.1
several_sides s left t e = let h = both_empty _ _ e in untyped h.0 (no_type (offset_of t) (is_some (kind_of s t)) h.1)

-- the outputs fit the left sides
several_fits : (at : ℕ) (g : Option Signature) (left ks : List (Option Kind)) → is_some g ≡ true → all_typed ks ≡ true → several_clash at g left ks ≡ []
    → (h : Signature) × (g ≡ Some h) × (fit h.takes ks ≡ true) × (fit h.gives left ≡ true)
several_fits at Nothing left ks known typed e = cc
several_fits at (Some g) left ks known typed e =
    let b = by (all_typed ks) (fit g.takes ks) (fit g.gives left) typed e in (g, refl, b.0, b.1)
  where
    by : (a b c : Bool) → a ≡ true → cond (a && not (b && c)) (TypeClash at ∷ []) [] ≡ [] → (b ≡ true) × (c ≡ true)
    by true true true h e = (refl, refl)
    by _ _ _ h e = cc

node_known : (ns : List NodeTree) (f : Identifier) → is_among (texts (map (λ (m : NodeTree). m.name) ns)) f ≡ true → is_some (node_among ns f) ≡ true
node_known [] f e = cc
node_known (m ∷ ns) f e = by (is_same m.name.text f) e (node_known ns f)
  where
    by : (b : Bool) → (b || is_among (texts (map (λ (m : NodeTree). m.name) ns)) f) ≡ true
        → (is_among (texts (map (λ (m : NodeTree). m.name) ns)) f ≡ true → is_some (node_among ns f) ≡ true)
        → is_some (cond b (Some m) (node_among ns f)) ≡ true
    by true e more = refl
    by false e more = more e

-- the node of a call and what it takes and gives
signature_is : (o : Option NodeTree) (f : NodeTree → Signature) (g : Signature) → option_map f o ≡ Some g → (is_some o ≡ true) × (g ≡ f (unwrap_or o no_node))
signature_is Nothing f g e = cc
signature_is (Some m) f g e = let same : f m ≡ g = cc in (refl, sym same)

mapped_some : {A B : Type 0} (f : A → B) (o : Option A) → is_some o ≡ true → is_some (option_map f o) ≡ true
mapped_some f Nothing e = cc
mapped_some f (Some a) e = refl

-- the groups of faults of a node, of which each is empty
pub record IsTypedNode (p : ProgramTree) (n : NodeTree) : Type 0 where
  pub clocks : flat_map (clock_types p n) n.locals ≡ []
  pub equations : flat_map (equation_types p n) n.equations ≡ []
  pub assertions : flat_map (assertion_types p n) n.assertions ≡ []

pub typed_node : (p : ProgramTree) (n : NodeTree) → types_in_node p n ≡ [] → IsTypedNode p n
typed_node p n e =
    let a = both_empty _ _ e in
    let b = both_empty _ _ a.1 in
    record { clocks = a.0; equations = b.0; assertions = b.1 }

module _ (p : ProgramTree) (constants : (x : Identifier) → (is_declared (constant_names p) x || is_declared (label_names p) x) ≡ true
    → is_some (constant_kind p x) ≡ true)
    (n : NodeTree) (named : IsNamedNode p n) (right : IsTypedNode p n)
  where
    -- Names.

    pub flow_typed : (x : Identifier) → is_flow n x ≡ true → is_some (flow_kind p n x) ≡ true
    flow_typed x e =
        let lt = (index_there (flows n) x e).0 in
        let many : length (flow_kinds p n) ≡ length (flows n) = simp (length-append, length-map) (omega arith) in
        ap is_some (slice_get-get_or (flow_kinds p n) (site_of n x) kind.Bool (omega (arith, lt, many)))

    name_typed : (x : Identifier) → is_value p n x ≡ true → is_some (value_kind p n x) ≡ true
    name_typed x e = by (is_flow n x) e (flow_typed x)
      where
        by : (b : Bool) → (b || (is_declared (constant_names p) x || is_declared (label_names p) x)) ≡ true → (b ≡ true → is_some (flow_kind p n x) ≡ true)
            → is_some (cond b (flow_kind p n x) (constant_kind p x)) ≡ true
        by true e flow = flow refl
        by false e flow = constants x e

    callee_known : (f : Identifier) → is_declared (node_names p) f ≡ true → is_some (signature_named p f) ≡ true
    callee_known f e = mapped_some (signature_of p) (node_named p f) (node_known p.nodes f e)

    -- an expression whose names are known
    pub expression_typed : (e : Tree) → expression_types (node_scope p n) e ≡ [] → node_uses p n e ≡ [] → is_some (kind_of (node_scope p n) e) ≡ true
    expression_typed = typed (node_scope p n) (is_value p n) (is_flow n) (is_declared (node_names p)) name_typed (λ x m. flow_typed x) (λ f m. callee_known f)

    abbrev pub HaveNames : Trees → Type 0
    HaveNames es = faults_of_all (own_uses (is_value p n) (is_flow n) (is_declared (node_names p))) es ≡ []

    abbrev pub HaveTypes : Trees → Type 0
    HaveTypes es = faults_of_all (own_type_fault (node_scope p n)) es ≡ []

    all_expressions_typed : (es : Trees) → HaveTypes es → HaveNames es → all_typed (kinds_of_all (node_scope p n) es) ≡ true
    all_expressions_typed =
        arguments_typed (node_scope p n) (is_value p n) (is_flow n) (is_declared (node_names p)) name_typed (λ x m. flow_typed x) (λ f m. callee_known f)

    -- Calls.

    -- a call of a node of the program, whose arguments have the types of its inputs
    pub record IsFittingCall (c : CallTree) : Type 0 where
      pub known : is_some (node_named p c.name) ≡ true
      pub fits : fit (decl_kinds p (node_of p c.name).inputs) (kinds_of_all (node_scope p n) c.args) ≡ true
      pub typed : all_typed (kinds_of_all (node_scope p n) c.args) ≡ true

    fitting_call : (c : CallTree) → IsFitting (signature_named p c.name) (kinds_of_all (node_scope p n) c.args) → IsFittingCall c
    fitting_call c h =
        let s = signature_is (node_named p c.name) (signature_of p) h.signature h.known in
        record { known = s.0; fits = subst (λ (g : Signature). fit g.takes (kinds_of_all (node_scope p n) c.args) ≡ true) s.1 h.fits; typed = h.typed }

    right_call : (c : CallTree) → IsRightCall (own_type_fault (node_scope p n)) c
        → IsRightCall (own_uses (is_value p n) (is_flow n) (is_declared (node_names p))) c → IsFittingCall c
    right_call c t u =
        fitting_call c
        (call_fits c.at true (signature_named p c.name) (kinds_of_all (node_scope p n) c.args) (all_expressions_typed c.args t.below u.below)
        (λ m. callee_known c.name (met _ _ u.here)) t.here).0

    calls_fit_in : (t : Tree) → expression_types (node_scope p n) t ≡ [] → node_uses p n t ≡ [] → (c : CallTree) → Contains (calls_in t) c → IsFittingCall c
    calls_fit_in t e u c w = right_call c (calls_right _ t e c w) (calls_right _ t u c w)

    calls_fit_in_all : (es : Trees) → HaveTypes es → HaveNames es → (c : CallTree) → Contains (calls_in_all es) c → IsFittingCall c
    calls_fit_in_all es e u c w = right_call c (calls_of_all_right _ es e c w) (calls_of_all_right _ es u c w)

    delays_typed_in : (t : Tree) → expression_types (node_scope p n) t ≡ [] → node_uses p n t ≡ [] → (d : Delay) → Contains (delays t) d
        → is_some (kind_of (node_scope p n) d.operand) ≡ true
    delays_typed_in t e u d w = expression_typed d.operand (delays_right (own_type_fault (node_scope p n)) t e d w)
        (delays_right (own_uses (is_value p n) (is_flow n) (is_declared (node_names p))) t u d w)

    -- Equations.

    -- an equation with one left side, or with another number of them
    pub data IsSided (xs : List Name) (e : Tree) : Type 0 where
      single : (x : Name) → xs ≡ x ∷ [] → expression_types (node_scope p n) e ≡ []
          → sides_clash (offset_of e) (flow_kind p n x.text) (kind_of (node_scope p n) e) ≡ [] → IsSided xs e
      several : (at : ℕ) (site : Option ℕ) (f : Identifier) (es : Trees) → (length xs ≡ 1 → ⊥) → e ≡ Node at site (Call f es) → HaveTypes es
          → several_clash at (signature_named p f) (left_kinds p n xs) (kinds_of_all (node_scope p n) es) ≡ [] → IsSided xs e

    many_sided : (xs : List Name) (e : Tree) → (length xs ≡ 1 → ⊥) → node_uses p n e ≡ [] → IsSeveral (node_scope p n) (left_kinds p n xs) e → IsSided xs e
    many_sided xs _ other u (called at site f es below own) = several at site f es other refl below own
    many_sided xs e other u (untyped types none) = absurd (none (expression_typed e types u))

    sided : (xs : List Name) (e : Tree) → node_uses p n e ≡ [] → sides_types p n xs e ≡ [] → IsSided xs e
    sided (x ∷ []) e u h = let s = both_empty _ _ h in single x refl s.0 s.1
    sided xs e u h = many_sided xs e (λ is. let no : ⊥ = cc in no) u (several_sides (node_scope p n) (left_kinds p n xs) e h)

    pub equation_sided : (q : EquationTree) → Contains n.equations q → IsSided q.lefts q.right
    equation_sided q w = sided q.lefts q.right (sides_known p n named q w).1 (none_of (equation_types p n) n.equations q right.equations w)

    -- the arguments of a call that is a right side
    several_uses : (q : EquationTree) (at : ℕ) (site : Option ℕ) (f : Identifier) (es : Trees) → Contains n.equations q → q.right ≡ Node at site (Call f es)
        → (is_declared (node_names p) f ≡ true) × HaveNames es
    several_uses q at site f es w is =
        let u = both_empty _ _ (subst (λ t. node_uses p n t ≡ []) is (sides_known p n named q w).1) in (met _ _ u.0, u.1)

    pub several_call : (q : EquationTree) (at : ℕ) (site : Option ℕ) (f : Identifier) (es : Trees) → Contains n.equations q → q.right ≡ Node at site (Call f es)
        → HaveTypes es → several_clash at (signature_named p f) (left_kinds p n q.lefts) (kinds_of_all (node_scope p n) es) ≡ []
        → IsFittingCall (record { at = at; site = unwrap_or site 0; name = f; args = es })
        × (fit (decl_kinds p (node_of p f).outputs) (left_kinds p n q.lefts) ≡ true)
    several_call q at site f es w is below own =
        let u = several_uses q at site f es w is in
        let typed = all_expressions_typed es below u.1 in
        let h = several_fits at (signature_named p f) (left_kinds p n q.lefts) (kinds_of_all (node_scope p n) es) (callee_known f u.0) typed own in
        let s = signature_is (node_named p f) (signature_of p) h.0 h.1 in (
          fitting_call (record { at = at; site = unwrap_or site 0; name = f; args = es }) (record { signature = h.0; known = h.1; fits = h.2; typed = typed }),
          subst (λ (g : Signature). fit g.gives (left_kinds p n q.lefts) ≡ true) s.1 h.3,
        )

    side_calls_fit : (q : EquationTree) → Contains n.equations q → IsSided q.lefts q.right → (c : CallTree) → Contains (calls_in q.right) c → IsFittingCall c
    side_calls_fit q w (single x is types clash) c v = calls_fit_in q.right types (sides_known p n named q w).1 c v
    side_calls_fit q w (several at site f es other is below own) c v =
        elim (cons_cases (record { at = at; site = unwrap_or site 0; name = f; args = es }) (calls_in_all es) c (subst (λ t. Contains (calls_in t) c) is v)) [
          | inl same ↦ subst IsFittingCall same (several_call q at site f es w is below own).0
          | inr rest ↦ calls_fit_in_all es below (several_uses q at site f es w is).1 c rest
        ]

    side_delays_typed : (q : EquationTree) → Contains n.equations q → IsSided q.lefts q.right → (d : Delay) → Contains (delays q.right) d
        → is_some (kind_of (node_scope p n) d.operand) ≡ true
    side_delays_typed q w (single x is types clash) d v = delays_typed_in q.right types (sides_known p n named q w).1 d v
    side_delays_typed q w (several at site f es other is below own) d v =
        let there = subst (λ t. Contains (delays t) d) is v in
        expression_typed d.operand (delays_of_all_right (own_type_fault (node_scope p n)) es below d there)
        (delays_of_all_right (own_uses (is_value p n) (is_flow n) (is_declared (node_names p))) es (several_uses q at site f es w is).1 d there)

    -- Assertions.

    assertion_right : (a : AssertionTree) → Contains n.assertions a → (expression_types (node_scope p n) a.body ≡ [])
        × (clash_unless (offset_of a.body) kind.Bool (kind_of (node_scope p n) a.body) ≡ [])
    assertion_right a w = both_empty _ _ (none_of (assertion_types p n) n.assertions a right.assertions w)

    assertion_uses_nil : (a : AssertionTree) → Contains n.assertions a → node_uses p n a.body ≡ []
    assertion_uses_nil a w = none_of (assertion_uses p n) n.assertions a named.assertions w

    -- an assertion is Boolean
    pub assertion_typed : (a : AssertionTree) → Contains n.assertions a → kind_of (node_scope p n) a.body ≡ Some kind.Bool
    assertion_typed a w =
        let r = assertion_right a w in
        is_wanted (offset_of a.body) kind.Bool _ (expression_typed a.body r.0 (assertion_uses_nil a w)) r.1

    -- All calls and delays of the node.

    -- each call fits its node
    pub calls_fit : (c : CallTree) → Contains (calls n) c → IsFittingCall c
    calls_fit c w = elim (of_node n c w) [
      | inl v ↦ side_calls_fit v.0 v.1 (equation_sided v.0 v.1) c v.2
      | inr v ↦ calls_fit_in v.0.body (assertion_right v.0 v.1).0 (assertion_uses_nil v.0 v.1) c v.2
    ]

    -- what is remembered has a type
    pub delays_typed : (d : Delay) → Contains (node_delays n) d → is_some (kind_of (node_scope p n) d.operand) ≡ true
    delays_typed d w = elim (delay_of_node n d w) [
      | inl v ↦ side_delays_typed v.0 v.1 (equation_sided v.0 v.1) d v.2
      | inr v ↦ delays_typed_in v.0.body (assertion_right v.0 v.1).0 (assertion_uses_nil v.0 v.1) d v.2
    ]

    -- the flow of a declared clock is Boolean
    pub clock_typed : (d : Decl) (c : Name) → Contains n.locals d → d.clock ≡ Some c → flow_kind p n c.text ≡ Some kind.Bool
    clock_typed d c w is =
        let clash = subst (λ (o : Option Name). elim o as (λ _. List NameFault) [ Nothing ↦ [] | Some c ↦ clash_unless c.at kind.Bool (flow_kind p n c.text) ]
        ≡ []) is (none_of (clock_types p n) n.locals d right.clocks w) in
        let uses = subst (λ (o : Option Name). elim o as (λ _. List NameFault) [ Nothing ↦ [] | Some c ↦ use_of (is_flow n) c ] ≡ []) is
        (none_of (clock_use n) n.locals d named.clocks w) in
        is_wanted c.at kind.Bool _ (flow_typed c.text (met _ _ uses)) clash

    -- the two sides of an equation with one left side
    pub sides_typed : (at : ℕ) (x : Identifier) (e : Tree) → is_flow n x ≡ true → expression_types (node_scope p n) e ≡ [] → node_uses p n e ≡ []
        → sides_clash at (flow_kind p n x) (kind_of (node_scope p n) e) ≡ []
        → (k : Kind) × (kind_of (node_scope p n) e ≡ Some k) × (flow_kind p n x ≡ Some k)
    sides_typed at x e flow types uses clash =
        let k = the_some (flow_kind p n x) (flow_typed x flow) in
        let wanted = subst (λ (o : Option Kind). sides_clash at o (kind_of (node_scope p n) e) ≡ []) k.1 clash in
        (k.0, is_wanted at k.0 _ (expression_typed e types uses) wanted, k.1)
