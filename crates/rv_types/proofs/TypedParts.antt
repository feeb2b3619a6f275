-- The parts of an expression that has a type have types, and so have the operands of each operator of a node that keeps
-- the rules.
use Rattle.std.proofs.Common.{◌≡◌, ℕ, suc, inl, inr, Bool, true, ◌||◌, List, [], ◌∷◌, ◌++◌, flat_map, length, refl, sym, ◌∙◌, ap, subst, arith}
use Rattle.std.proofs.Common.{Option, Some, None as Nothing, unwrap_or}
use Rattle.std.proofs.{lemmas.List.length-map, lemmas.List.Elements.Contains-append_left, lemmas.List.Elements.Contains-append_cases}
use Rattle.std.proofs.lemmas.Option.{none-some, same_Some}
use Rattle.std.specs.{List.Contains, Option.option_map}
use Rattle.rv_tree.specs.Tree.{Tree, Node, Form, Not, Minus, Pre, Current, When, Binary, If, AtMostOne, Call, Trees, None, More, EquationTree, AssertionTree}
use Rattle.rv_tree.specs.Tree.{NodeTree, ProgramTree}
use Rattle.rv_tree.specs.{declared.tree.Decl.Decl, declared.tree.Name.Name, declared.tree.Op.Op, Places.Identifier}
use Rattle.rv_types.specs.Instances.{CallTree, calls_in, calls_in_all, calls_in_equations, calls_in_assertions, calls, alone, IsArgument, head, tail, no_node}
use Rattle.rv_types.specs.Instances.{node_of}
use Rattle.rv_types.specs.Types.{Signature, Scope, kind_in, one_of, two_of, three_of, binary_rule, not_rule, minus_rule, memory_rule}
use Rattle.rv_types.specs.Types.{when_of, if_rule, all_typed, both_are, is_constant, kinds_of_all, kind_of}
use Rattle.rv_types.specs.Variables.{parts, form_parts, parts_of_all, node_parts}
use Rattle.rv_types.specs.{declared.typed.Kind.Kind, declared.typed.Kind.TheVariants.Bool as Boolean, declared.typed.Kind.TheVariants.Int}
use Rattle.rv_types.specs.{declared.fault.Verdict.Verdict}
use Rattle.rv_types.specs.{Kinds.kind_in_program, Kinds.node_named, Names.texts, Scopes.node_scope}
use Rattle.rv_types.specs.{Scopes.signature_of, Scopes.signature_named, WellFormed.IsWellFormed, WellFormed.IsWellTyped}
use Rattle.rv_types.proofs.Verdicts.{one_kind, two_kinds, three_kinds, when_kind, most_kind, product_kind, Called, call_kind, first_typed}
use Rattle.rv_types.proofs.Members.{nothing_in, cons_cases, at_head, in_parts, of_flat_map}
use Rattle.rv_tree.specs.declared.tree.Op.TheVariants as op

-- a type is known
abbrev pub IsKind : Option Kind → Type 0
IsKind o = (k : Kind) × (o ≡ Some k)

pub of_one : (rule : Kind → Verdict) (o : Option Kind) → IsKind (kind_in (one_of rule o)) → IsKind o
of_one rule o w = let r = one_kind rule o w.0 w.1 in (r.0, r.1)

pub of_two : (rule : Kind → Kind → Verdict) (o q : Option Kind) → IsKind (kind_in (two_of rule o q)) → IsKind o × IsKind q
of_two rule o q w = let r = two_kinds rule o q w.0 w.1 in ((r.0, r.2), (r.1, r.3))

pub of_three : (rule : Kind → Kind → Kind → Verdict) (o q r : Option Kind) → IsKind (kind_in (three_of rule o q r)) → IsKind o × IsKind q × IsKind r
of_three rule o q r w = let s = three_kinds rule o q r w.0 w.1 in ((s.0, s.3), (s.1, s.4), (s.2, s.5))

pub of_when : (moves : Bool) (o c : Option Kind) → IsKind (kind_in (when_of moves o c)) → IsKind o
of_when moves o c w = (w.0, (when_kind moves o c w.0 w.1).1)

module _ (s : Scope) where
  -- an expression has a type
  abbrev pub IsTyped : Tree → Type 0
  IsTyped e = IsKind (kind_of s e)

  mutual
    -- each part of it has one
    pub parts_typed : (e : Tree) → IsTyped e → (t : Tree) → Contains (parts e) t → IsTyped t
    parts_typed (Node at site form) w t v = elim (cons_cases (Node at site form) (form_parts form) t v) [
      | inl same ↦ subst IsTyped same w
      | inr rest ↦ form_typed at site form w t rest
    ]

    form_typed : (at : ℕ) (site : Option ℕ) (form : Form) → IsTyped (Node at site form) → (t : Tree) → Contains (form_parts form) t → IsTyped t
    form_typed at site (Not e) w t v = parts_typed e (of_one not_rule (kind_of s e) w) t v
    form_typed at site (Minus e) w t v = parts_typed e (of_one minus_rule (kind_of s e) w) t v
    form_typed at site (Pre e) w t v = parts_typed e (of_one (memory_rule s.moves) (kind_of s e) w) t v
    form_typed at site (Current e) w t v = parts_typed e (of_one (memory_rule s.moves) (kind_of s e) w) t v
    form_typed at site (When e c) w t v = parts_typed e (of_when s.moves (kind_of s e) (s.clock c.text) w) t v
    form_typed at site (Binary o a b) w t v =
        let h = of_two (binary_rule s.moves (is_constant s a || is_constant s b) o) (kind_of s a) (kind_of s b) w in
        elim (Contains-append_cases (parts a) (parts b) t v) [ inl u ↦ parts_typed a h.0 t u | inr u ↦ parts_typed b h.1 t u ]
    form_typed at site (If i a b) w t v =
        let h = of_three if_rule (kind_of s i) (kind_of s a) (kind_of s b) w in
        elim (Contains-append_cases (parts i) (parts a ++ parts b) t v) [
          | inl u ↦ parts_typed i h.0 t u
          | inr u ↦ elim (Contains-append_cases (parts a) (parts b) t u) [ inl r ↦ parts_typed a h.1 t r | inr r ↦ parts_typed b h.2 t r ]
        ]
    form_typed at site (AtMostOne es) w t v = all_parts_typed es (most_kind (kinds_of_all s es) w.0 w.1).0 t v
    form_typed at site (Call f es) w t v = all_parts_typed es (call_kind s.moves (s.callee f) (kinds_of_all s es) w.0 w.1).1.typed t v
    form_typed at site _ w t v = nothing_in t v

    pub all_parts_typed : (es : Trees) → all_typed (kinds_of_all s es) ≡ true → (t : Tree) → Contains (parts_of_all es) t → IsTyped t
    all_parts_typed None w t v = nothing_in t v
    all_parts_typed (More e es) w t v =
        let h = first_typed (kind_of s e) (kinds_of_all s es) w in
        elim (Contains-append_cases (parts e) (parts_of_all es) t v) [ inl u ↦ parts_typed e h.0 t u | inr u ↦ all_parts_typed es h.1 t u ]

  -- the operands of an operator that has a type
  pub operands_typed : (at : ℕ) (site : Option ℕ) (o : Op) (a b : Tree) → IsTyped (Node at site (Binary o a b)) → IsTyped a × IsTyped b
  operands_typed at site o a b w = of_two (binary_rule s.moves (is_constant s a || is_constant s b) o) (kind_of s a) (kind_of s b) w

  -- one operand of a product is constant
  pub one_constant : (at : ℕ) (site : Option ℕ) (a b : Tree) → IsTyped (Node at site (Binary op.Times a b)) → (is_constant s a || is_constant s b) ≡ true
  one_constant at site a b w =
      let scaled = is_constant s a || is_constant s b in
      let r = two_kinds (binary_rule s.moves scaled op.Times) (kind_of s a) (kind_of s b) w.0 w.1 in
      (product_kind (both_are Int r.0 r.1) scaled w.0 r.4).0

  pub branches_typed : (at : ℕ) (site : Option ℕ) (i a b : Tree) → IsTyped (Node at site (If i a b)) → IsTyped a × IsTyped b
  branches_typed at site i a b w = let h = of_three if_rule (kind_of s i) (kind_of s a) (kind_of s b) w in (h.1, h.2)

  pub minus_typed : (at : ℕ) (site : Option ℕ) (e : Tree) → IsTyped (Node at site (Minus e)) → IsTyped e
  minus_typed at site e w = of_one minus_rule (kind_of s e) w

  pub current_typed : (at : ℕ) (site : Option ℕ) (e : Tree) → IsTyped (Node at site (Current e)) → IsTyped e
  current_typed at site e w = of_one (memory_rule s.moves) (kind_of s e) w

  pub when_typed : (at : ℕ) (site : Option ℕ) (e : Tree) (c : Name) → IsTyped (Node at site (When e c)) → IsTyped e
  when_typed at site e c w = of_when s.moves (kind_of s e) (s.clock c.text) w

-- a call that has a type gives one output
pub call_output : (p : ProgramTree) (n : NodeTree) (at : ℕ) (site : Option ℕ) (f : Identifier) (es : Trees)
    → IsTyped (node_scope p n) (Node at site (Call f es)) → length (node_of p f).outputs ≡ 1
call_output p n at site f es w = named (node_named p f) (call_kind true (signature_named p f) (kinds_of_all (node_scope p n) es) w.0 w.1).1
  where
    named : (o : Option NodeTree) → Called (option_map (signature_of p) o) (kinds_of_all (node_scope p n) es) w.0 → length (unwrap_or o no_node).outputs ≡ 1
    named Nothing c = absurd (none-some c.signature c.known)
    named (Some m) c =
        sym (length-map m.outputs (λ (d : Decl). kind_in_program p d.kind))
        ∙ ap (λ (g : Signature). length g.gives) (same_Some (signature_of p m) c.signature c.known) ∙ ap length c.gives

-- a part of some expressions is one of one of them
pub argument_part : (es : Trees) (t : Tree) → Contains (parts_of_all es) t → (j : ℕ) × (e : Tree) × IsArgument es j e × Contains (parts e) t
argument_part None t v = nothing_in t v
argument_part (More e es) t v = elim (Contains-append_cases (parts e) (parts_of_all es) t v) [
  | inl u ↦ (0, e, head, u)
  | inr u ↦ let w = argument_part es t u in (suc w.0, w.1, tail w.2, w.3)
]

-- the calls of the right side of an equation are among those of all
pub right_calls : (qs : List EquationTree) (q : EquationTree) (c : CallTree) → Contains qs q → Contains (calls_in q.right) c
    → Contains (calls_in_equations qs) c
right_calls = in_parts (λ (q : EquationTree). calls_in q.right) calls_in_equations refl (λ q qs. refl)

-- a call is no operator
not_operator : (at : ℕ) (site : Option ℕ) (f : Identifier) (es : Trees) (k : ℕ) (s : Option ℕ) (o : Op) (a b : Tree)
    → ◌≡◌ {A = Tree} (Node at site (Call f es)) (Node k s (Binary o a b)) → ⊥
not_operator at site f es k s o a b e = cc

module _ (p : ProgramTree) (n : NodeTree) (formed : IsWellFormed p n) (typed : IsWellTyped p n) (at : ℕ) (site : Option ℕ) (o : Op) (a b : Tree) where
  abbrev pub it : Tree
  it = Node at site (Binary o a b)

  in_typed : (e : Tree) → IsTyped (node_scope p n) e → Contains (parts e) it → IsTyped (node_scope p n) a
  in_typed e w v = (operands_typed (node_scope p n) at site o a b (parts_typed (node_scope p n) e w it v)).0

  in_several : (q : EquationTree) → Contains n.equations q → (length q.lefts ≡ 1 → ⊥) → Contains (parts q.right) it → IsTyped (node_scope p n) a
  in_several q w other v =
      let call = formed.sides q w other in
      let c : CallTree = record { at = call.0; site = unwrap_or call.1 0; name = call.2; args = call.3 } in
      let of_right : Contains (calls_in q.right) c = subst (λ (e : Tree). Contains (calls_in e) c) (sym call.4) (at_head c (calls_in_all call.3)) in
      let there : Contains (calls n) c = Contains-append_left (calls_in_equations n.equations) (calls_in_assertions n.assertions) c
      (right_calls n.equations q c w of_right) in
      let part : Contains (parts (Node call.0 call.1 (Call call.2 call.3))) it = subst (λ (e : Tree). Contains (parts e) it) call.4 v in
      elim (cons_cases (Node call.0 call.1 (Call call.2 call.3)) (parts_of_all call.3) it part) [
        | inl same ↦ absurd (not_operator call.0 call.1 call.2 call.3 at site o a b same)
        | inr rest ↦ let x = argument_part call.3 it rest in let t = typed.argument c x.0 x.1 there x.2 in in_typed x.1 (t.0, t.1) x.3
      ]

  in_equation : (q : EquationTree) → Contains n.equations q → Contains (parts q.right) it → IsTyped (node_scope p n) a
  in_equation q w v = by_lefts q.lefts refl
    where
      by_lefts : (ls : List Name) → q.lefts ≡ ls → IsTyped (node_scope p n) a
      by_lefts (x ∷ []) e = let t = typed.body x.text q.right (alone q w (ap texts e)) in in_typed q.right (t.0, t.1) v
      by_lefts ls e = in_several q w (λ one. let m = ap length e in omega (arith, m, one)) v

  -- the left operand of an operator of a node has a type
  pub left_typed : Contains (node_parts n) it → IsTyped (node_scope p n) a
  left_typed w = elim (Contains-append_cases (flat_map (λ (q : EquationTree). parts q.right) n.equations)
      (flat_map (λ (r : AssertionTree). parts r.body) n.assertions) it w) [
        | inl v ↦ let q = of_flat_map (λ (q : EquationTree). parts q.right) n.equations it v in in_equation q.0 q.1 q.2
        | inr v ↦ let r = of_flat_map (λ (r : AssertionTree). parts r.body) n.assertions it v in in_typed r.0.body (Boolean, typed.assertion r.0 r.1) r.2
      ]
