-- What an expression of an instance has in a row has its type, where its clock is there and the flows that it needs have
-- theirs.
use Rattle.std.proofs.Common.{◌≡◌, ℕ, ◌+◌, ◌<◌, ◌↔◌, pos, Bool, true, false, ◌||◌, cond, unwrap_or, List, [], ◌∷◌, ◌++◌, refl, sym, ◌∙◌, ap, subst, arith}
use Rattle.std.proofs.Common.{Option, Some, IsSome, slice_get, length, None as Nothing}
use Rattle.std.proofs.lemmas.List.{append_assoc, length-map}
use Rattle.std.proofs.lemmas.Option.{none-some, same_Some, cond_some, slice_get_within}
use Rattle.std.specs.{List.All, List.Contains, Option.option_map}
use Rattle.rv_base.specs.{declared.value.Value.Value, declared.value.Value.TheVariants.Flag, declared.value.Value.TheVariants.Whole}
use Rattle.rv_tree.specs.Tree.{Tree, Node, Form, True, False, Number, Named, Not, Minus, Pre, Current, When, Binary, If, AtMostOne, Call, NodeTree, ProgramTree}
use Rattle.rv_tree.specs.{Places.Identifier, Places.Sites, Places.flows, Places.is_flow, Places.site_of, Delays.node_delays}
use Rattle.rv_types.specs.Clocks.{pace, pace_of_all, seen, meet, form_pace, clock_at}
use Rattle.rv_types.specs.Types.{kind_in, one_of, binary_rule}
use Rattle.rv_types.specs.Types.{Signature, call_of, is_constant, form_verdict, kinds_of_all, kind_of}
use Rattle.rv_types.specs.Scopes.{constant_kind, constant_value, signature_of, signature_named, node_scope}
use Rattle.rv_types.specs.Instances.{CallTree, calls, clock_of, clock_taken, clock_in, clock_of_arguments, Instance, place, absolute, no_node, node_of, callee}
use Rattle.rv_types.specs.Instances.{IsInstance, is_callee, output_place, IsNode}
use Rattle.rv_types.specs.{declared.typed.Kind.Kind, declared.typed.Clock.Clock, declared.typed.Clock.TheVariants.Base, declared.fault.Pace.TheVariants.Free}
use Rattle.rv_types.specs.{declared.fault.Pace.TheVariants.At, declared.fault.Verdict.TheVariants.Has}
use Rattle.rv_types.specs.{Kinds.kind_in_program, Kinds.decl_kinds, Kinds.flow_kind, Kinds.node_named}
use Rattle.rv_types.specs.{Values.HasKind, Values.operand_kind, Needs.flow_of, Needs.needs, Needs.form_needs, WellFormed.Suits, WellFormed.AreWell}
use Rattle.rv_types.specs.declared.typed.Kind.TheVariants as kind
use Rattle.rv_meaning.specs.Instants.{State, is_on_in, now, form_now, value_now}
use Rattle.rv_meaning.specs.{Meaning.is_true, Meaning.held, Meaning.is_on, Meaning.kept_place, Runs.Instant, Runs.cell, Runs.AreStarts}
use Rattle.rv_types.proofs.Suiting.{suits_both, suits_parts, ground_taken, taken_suits, suits_operands, suits_current, suits_when}
use Rattle.rv_meaning.proofs.TypedOperators.{chosen, retyped, operator_typed}
use Rattle.rv_types.proofs.Verdicts.{two_kinds, named_kind, suited_kind, memory_kind, when_kind, if_kinds, most_kind, Called, call_kind}
use Rattle.rv_meaning.proofs.Standing.{Stands, pre_operand, current_operand, when_operand, left_operand, right_operand, then_part, else_part, own_call}
use Rattle.rv_meaning.proofs.{Rows.no_flag, FlowSites.flow_there, FlowSites.output_base, FlowSites.output_kind, FlowSites.flow_at}
use Rattle.rv_base.proofs.Lists.{all_left, all_right}

-- a flow that is there has the value that it holds
pub some_held : (o : Option Value) → IsSome o → o ≡ Some (held o)
some_held Nothing h = absurd (no_flag h)
some_held (Some v) h = refl

-- a flow that is true is there
on_some : (o : Option Value) → is_on o ≡ true → IsSome o
on_some Nothing h = absurd (no_flag h)
on_some (Some v) h = refl

-- the type of a call is that of the first output of its node
called_kind : (program : ProgramTree) (f : Identifier) (ks : List (Option Kind)) (k : Kind) → kind_in (call_of true (signature_named program f) ks) ≡ Some k
    → slice_get (decl_kinds program (node_of program f).outputs) 0 ≡ Some k
called_kind program f ks k e = named (node_named program f) (call_kind true (signature_named program f) ks k e).1
  where
    named : (m : Option NodeTree) → Called (option_map (signature_of program) m) ks k → slice_get (decl_kinds program (unwrap_or m no_node).outputs) 0 ≡ Some k
    named Nothing c = absurd (none-some c.signature c.known)
    named (Some m) c = ap (λ (g : Signature). slice_get g.gives 0) (same_Some (signature_of program m) c.signature c.known)
        ∙ ap (λ (l : List Kind). slice_get l 0) c.gives

module _ (program : ProgramTree) (main : Identifier) (row : Instant) where
  -- what the flow at a place has is of its type
  abbrev pub TypedAt : Sites → Type 0
  TypedAt p = (i : Instance) (x : Identifier) (k : Kind) (v : Value) → IsInstance program main i → Contains (flows i.node) x → p ≡ place i x
      → flow_kind program i.node x ≡ Some k → cell row p ≡ Some v → HasKind program k v

  -- each flow is there exactly where its clock is
  abbrev pub AreOnClock : Type 0
  AreOnClock = (i : Instance) (x : Identifier) → IsInstance program main i → Contains (flows i.node) x
      → IsSome (cell row (place i x)) ↔ (is_on_in row (absolute i (clock_of i.node x)) ≡ true)

  -- so a flow whose clock is there holds a value of its type
  pub flow_typed : AreOnClock → (i : Instance) (x : Identifier) (k : Kind) (p : Sites) → IsInstance program main i → Contains (flows i.node) x → p ≡ place i x
      → flow_kind program i.node x ≡ Some k → is_on_in row (absolute i (clock_of i.node x)) ≡ true → TypedAt p → HasKind program k (held (cell row p))
  flow_typed clocked i x k p inst w is e on known =
      let there : IsSome (cell row p) = subst (λ q. IsSome (cell row q)) (sym is) ((clocked i x inst w).1 on) in
      known i x k (held (cell row p)) inst w is e (some_held (cell row p) there)

module _ (program : ProgramTree) (main : Identifier) (well : AreWell program) (is_node : IsNode program main) (row : Instant)
    (clocked : AreOnClock program main row) where
  -- an output of a call whose arguments' clock is there holds a value of its type
  pub output_typed : (i : Instance) → IsInstance program main i → (c : CallTree) (j : ℕ) (k : Kind) → Contains (calls i.node) c
      → slice_get (decl_kinds program (node_of program c.name).outputs) j ≡ Some k
      → is_on_in row (absolute i (clock_of_arguments i c.args)) ≡ true → TypedAt program main row (output_place program i c.site c.name j)
      → HasKind program k (held (cell row (output_place program i c.site c.name j)))
  output_typed i inst c j k w e on known =
      let d : Instance = callee program i c in
      let below = slice_get_within (decl_kinds program d.node.outputs) j k e in
      let lt : j < length d.node.outputs = omega (arith, below, length-map d.node.outputs (λ d. kind_in_program program d.kind)) in
      let f = flow_at program main well is_node d (is_callee c inst w) (length d.node.inputs + j) k (output_kind program d.node j k e) in
      flow_typed program main row clocked d f.name k (output_place program i c.site c.name j) (is_callee c inst w) f.within
      (sym (append_assoc i.path (c.site ∷ []) (site_of d.node f.name ∷ []) ∙ ap (λ s. i.path ++ c.site ∷ s ∷ []) f.site)) f.kind
      (ap (λ c. is_on_in row (absolute d c)) (ap (clock_at d.node) f.site ∙ output_base d.node j lt) ∙ on) known

  module _ (state : State) (starts : AreStarts program main state.kept) (i : Instance) (inst : IsInstance program main i) where
    -- what it has is of this type
    abbrev Typed : Kind → Tree → Type 0
    Typed k e = HasKind program k (now program state row i e)

    -- the flows that it needs have values of their types
    abbrev AreKnown : List Sites → Type 0
    AreKnown ps = All (TypedAt program main row) ps

    -- what a memory holds has the type of its operand
    memory_typed : (site : Option ℕ) (e : Tree) (k : Kind) → Contains (node_delays i.node) (record { site = site; operand = e })
        → kind_of (node_scope program i.node) e ≡ Some k
        → HasKind program k (state.kept (kept_place i site e))
    memory_typed site e k w is =
        let own : operand_kind program i.node e ≡ k = ap (λ o. unwrap_or o kind.Bool) is in
        subst (λ k. HasKind program k (state.kept (kept_place i site e))) own (starts i (record { site = site; operand = e }) inst w)

    -- a name is a flow whose clock is there, or a constant
    named_typed : (c : Clock) (x : Identifier) (k : Kind) (b : Bool) → kind_in (one_of Has (cond b (flow_kind program i.node x) (constant_kind program x)))
        ≡ Some k
        → Suits c (cond b (At (clock_of i.node x)) Free) → is_on_in row (absolute i c) ≡ true → AreKnown (cond b (place i x ∷ []) [])
        → HasKind program k (cond b (held (cell row (place i x))) (constant_value program x))
    named_typed c x k true is s on known =
        let e = named_kind (flow_kind program i.node x) k is in
        flow_typed program main row clocked i x k (place i x) inst (flow_there program i.node x k e) refl e
        (ap (λ c. is_on_in row (absolute i c)) s ∙ on) (known 0 (place i x) (omega arith))
    named_typed c x k false is s on known = well.values x k (named_kind (constant_kind program x) k is)

    mutual
      -- an expression on a clock that is there
      pub tree_typed : (c : Clock) (e : Tree) (k : Kind) → Stands i.node e → Suits c (pace i.node e) → is_on_in row (absolute i c) ≡ true
          → AreKnown (needs program i c e) → kind_of (node_scope program i.node) e ≡ Some k → Typed k e
      tree_typed c (Node at site form) k stands s on known is =
          form_typed c at site form k stands s on (all_right (TypedAt program main row) (flow_of (absolute i c)) (form_needs program i c site form) known) is

      -- by its form
      form_typed : (c : Clock) (at : ℕ) (site : Option ℕ) (form : Form) (k : Kind) → Stands i.node (Node at site form) → Suits c (form_pace i.node form)
          → is_on_in row (absolute i c) ≡ true
          → AreKnown (form_needs program i c site form) → kind_in (form_verdict (node_scope program i.node) form) ≡ Some k
          → HasKind program k (form_now program state row i site form)
      form_typed c at site True k stands s on known is = retyped program (Flag true) (same_Some kind.Bool k is) tt
      form_typed c at site False k stands s on known is = retyped program (Flag false) (same_Some kind.Bool k is) tt
      form_typed c at site (Number n) k stands s on known is = retyped program (Whole (pos n)) (same_Some kind.Int k is) tt
      form_typed c at site (Named x) k stands s on known is = named_typed c x k (is_flow i.node x) is s on known
      form_typed c at site (Not e) k stands s on known is =
          retyped program _ (suited_kind kind.Bool (kind_of (node_scope program i.node) e) k is).1 tt
      form_typed c at site (Minus e) k stands s on known is =
          retyped program _ (suited_kind kind.Int (kind_of (node_scope program i.node) e) k is).1 tt
      form_typed c at site (Pre e) k stands s on known is =
          memory_typed site e k (pre_operand i.node at site e stands) (memory_kind true (kind_of (node_scope program i.node) e) k is).1
      form_typed c at site (Current e) k stands s on known is =
          let h = (memory_kind true (kind_of (node_scope program i.node) e) k is).1 in
          let parts = current_operand i.node at site e stands in
          chosen program (is_on_in row (clock_in i Base e)) k (now program state row i e) (state.kept (kept_place i site e))
          (λ there. tree_typed (clock_taken i Base e) e k parts.1 (suits_current i.node c (pace i.node e) s) there known h)
          (memory_typed site e k parts.0 h)
      form_typed c at site (When e x) k stands s on known is =
          let h = when_kind true (kind_of (node_scope program i.node) e) (flow_kind program i.node x.text) k is in
          let clocks = suits_when i.node c (pace i.node e) (site_of i.node x.text) s in
          let on_it : is_on (cell row (place i x.text)) ≡ true = ap (λ c. is_on_in row (absolute i c)) clocks.1 ∙ on in
          let there = (clocked i x.text inst (flow_there program i.node x.text kind.Bool h.2)).0 (on_some (cell row (place i x.text)) on_it) in
          tree_typed (clock_of i.node x.text) e k (when_operand i.node at site e x stands) clocks.0 there known h.1
      form_typed c at site (Binary o a b) k stands s on known is =
          let scaled = is_constant (node_scope program i.node) a || is_constant (node_scope program i.node) b in
          let h = two_kinds (binary_rule true scaled o) _ _ k is in
          let clocks = suits_operands c o (pace i.node a) (pace i.node b) s in
          operator_typed program scaled _ o h.0 h.1 k _ _ h.4
          (tree_typed c a h.0 (left_operand i.node at site o a b stands) clocks.0 on (all_left (TypedAt program main row) (needs program i c a) _ known) h.2)
          (tree_typed c b h.1 (right_operand i.node at site o a b stands) clocks.1 on (all_right (TypedAt program main row) (needs program i c a) _ known) h.3)
      form_typed c at site (If a b d) k stands s on known is =
          let kinds = kind_of (node_scope program i.node) in
          let h = if_kinds (kinds a) (kinds b) (kinds d) k is in
          let outer = suits_both c (seen (pace i.node a)) (meet (seen (pace i.node b)) (seen (pace i.node d))) s in
          let clocks = suits_parts c (pace i.node b) (pace i.node d) outer.1 in
          let later = all_right (TypedAt program main row) (needs program i c a) (needs program i c b ++ needs program i c d) known in
          chosen program (is_true (now program state row i a)) k (now program state row i b) (now program state row i d)
          (λ _. tree_typed c b k (then_part i.node at site a b d stands) clocks.0 on (all_left (TypedAt program main row) (needs program i c b) _ later) h.1)
          (tree_typed c d k (else_part i.node at site a b d stands) clocks.1 on (all_right (TypedAt program main row) (needs program i c b) _ later) h.2)
      form_typed c at site (AtMostOne es) k stands s on known is =
          retyped program _ (most_kind (kinds_of_all (node_scope program i.node) es) k is).2 tt
      form_typed c at site (Call f args) k stands s on known is =
          let own : CallTree = record { at = at; site = unwrap_or site 0; name = f; args = args } in
          output_typed i inst own 0 k (own_call i.node at site f args stands) (called_kind program f (kinds_of_all (node_scope program i.node) args) k is)
          (ap (λ c. is_on_in row (absolute i c)) (ground_taken c (pace_of_all i.node args) s) ∙ on)
          (known 0 (output_place program i (unwrap_or site 0) f 0) (omega arith))

    -- what an expression has as a whole, where it is there
    pub value_typed : (c : Clock) (e : Tree) (k : Kind) (v : Value) → Stands i.node e → Suits c (pace i.node e)
        → AreKnown (needs program i (clock_taken i c e) e)
        → kind_of (node_scope program i.node) e ≡ Some k → value_now program state row i c e ≡ Some v → HasKind program k v
    value_typed c e k v stands s known is has =
        let h = cond_some (is_on_in row (clock_in i c e)) (now program state row i e) v has in
        subst (HasKind program k) h.1 (tree_typed (clock_taken i c e) e k stands (taken_suits c (pace i.node e) s) h.0 known is)
