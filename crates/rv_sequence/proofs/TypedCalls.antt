-- The calls of an expression that has a type have one output.
use Rattle.std.proofs.Common.{◌≡◌, ℕ, ◌<◌, inl, inr, true, ◌||◌, [], ◌∷◌, ◌++◌, length, unwrap_or, Option, Some, ◌∙◌, ap, subst}
use Rattle.std.proofs.Common.{arith, None as Nothing}
use Rattle.std.proofs.lemmas.List.Elements.{Contains-append_cases}
use Rattle.std.specs.{Option.option_map, List.Contains}
use Rattle.rv_tree.specs.Tree.{Tree, Node, Form, Not, Minus, Pre, Current, When, Binary, If, AtMostOne, Call, Trees, None, More, NodeTree, ProgramTree}
use Rattle.rv_tree.specs.{declared.tree.Decl.Decl, Places.Identifier}
use Rattle.rv_types.specs.Types.{Signature, Scope, all_typed, binary_rule, not_rule, minus_rule}
use Rattle.rv_types.specs.Types.{memory_rule, if_rule, is_constant, kind_of, kinds_of_all}
use Rattle.rv_types.specs.Instances.{CallTree, calls_in, form_calls, calls_in_all, node_of, no_node}
use Rattle.rv_types.specs.{Kinds.decl_kinds, Kinds.kind_in_program, Kinds.node_named, declared.typed.Kind.Kind}
use Rattle.rv_types.specs.{Scopes.node_scope, Scopes.signature_of}
use Rattle.rv_types.specs.declared.typed.Kind.TheVariants as kind
use Rattle.rv_instances.proofs.Lists.{length_map}
use Rattle.rv_types.proofs.{Verdicts.most_kind, Verdicts.call_kind, Verdicts.first_typed, TypedParts.IsKind, TypedParts.of_one, TypedParts.of_two}
use Rattle.rv_types.proofs.{TypedParts.of_three, TypedParts.of_when, Members.cons_cases, Members.nothing_in}
use Rattle.rv_base.proofs.Options.{some_same}

module _ (s : Scope) where
  -- a node of that name has one output
  abbrev pub IsSole : Identifier → Type 0
  IsSole f = (g : Signature) × (s.callee f ≡ Some g) × ((k : Kind) × (g.gives ≡ k ∷ []))

  mutual
    pub typed_calls : (e : Tree) → IsKind (kind_of s e) → (c : CallTree) → Contains (calls_in e) c → IsSole c.name
    typed_calls (Node at site form) t c w = form_typed at site form t c w

    form_typed : (at : ℕ) (site : Option ℕ) (form : Form) → IsKind (kind_of s (Node at site form)) → (c : CallTree) → Contains (form_calls at site form) c
        → IsSole c.name
    form_typed at site (Not e) t c w = typed_calls e (of_one not_rule (kind_of s e) t) c w
    form_typed at site (Minus e) t c w = typed_calls e (of_one minus_rule (kind_of s e) t) c w
    form_typed at site (Pre e) t c w = typed_calls e (of_one (memory_rule s.moves) (kind_of s e) t) c w
    form_typed at site (Current e) t c w = typed_calls e (of_one (memory_rule s.moves) (kind_of s e) t) c w
    form_typed at site (When e x) t c w = typed_calls e (of_when s.moves (kind_of s e) (s.clock x.text) t) c w
    form_typed at site (Binary o a b) t c w =
        let both = of_two (binary_rule s.moves (is_constant s a || is_constant s b) o) (kind_of s a) (kind_of s b) t in
        elim (Contains-append_cases (calls_in a) (calls_in b) c w) [ inl v ↦ typed_calls a both.0 c v | inr v ↦ typed_calls b both.1 c v ]
    form_typed at site (If i a b) t c w =
        let all = of_three if_rule (kind_of s i) (kind_of s a) (kind_of s b) t in
        elim (Contains-append_cases (calls_in i) (calls_in a ++ calls_in b) c w) [
          | inl v ↦ typed_calls i all.0 c v
          | inr v ↦ elim (Contains-append_cases (calls_in a) (calls_in b) c v) [ inl u ↦ typed_calls a all.1 c u | inr u ↦ typed_calls b all.2 c u ]
        ]
    form_typed at site (AtMostOne es) t c w = typed_all es (most_kind (kinds_of_all s es) t.0 t.1).0 c w
    form_typed at site (Call f es) t c w =
        let call = (call_kind s.moves (s.callee f) (kinds_of_all s es) t.0 t.1).1 in
        elim (cons_cases (record { at = at; site = unwrap_or site 0; name = f; args = es }) (calls_in_all es) c w) [
          | inl same ↦ subst (λ (d : CallTree). IsSole d.name) same (call.signature, call.known, (t.0, call.gives))
          | inr v ↦ typed_all es call.typed c v
        ]
    form_typed at site _ t c w = nothing_in c w

    pub typed_all : (es : Trees) → all_typed (kinds_of_all s es) ≡ true → (c : CallTree) → Contains (calls_in_all es) c → IsSole c.name
    typed_all None t c w = nothing_in c w
    typed_all (More e es) t c w =
        let parts = first_typed (kind_of s e) (kinds_of_all s es) t in
        elim (Contains-append_cases (calls_in e) (calls_in_all es) c w) [ inl v ↦ typed_calls e parts.0 c v | inr v ↦ typed_all es parts.1 c v ]

-- the node has an output
pub sole_output : (p : ProgramTree) (n : NodeTree) (f : Identifier) → IsSole (node_scope p n) f → 0 < length (node_of p f).outputs
sole_output p n f (g, is, one) = at (node_named p f) is
  where
    at : (o : Option NodeTree) → option_map (signature_of p) o ≡ Some g → 0 < length (unwrap_or o no_node).outputs
    at Nothing e = cc
    at (Some m) e =
        let gives : length (decl_kinds p m.outputs) ≡ 1 = ap (λ (h : Signature). length h.gives) (some_same (signature_of p m) g e) ∙ ap length one.1 in
        omega (arith, gives, length_map (λ (d : Decl). kind_in_program p d.kind) m.outputs)
