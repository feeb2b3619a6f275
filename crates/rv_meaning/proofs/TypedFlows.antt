-- Where the memories and inputs of an instant have values of their types, so have its flows, and so have the memories after
-- it.
use Rattle.std.proofs.Common.{◌≡◌, ℕ, ◌<◌, Bool, unwrap_or, List, [], ◌∷◌, length, get_or, refl, sym, ◌∙◌, ap, subst, inl, inr, arith, Option, Some, IsSome}
use Rattle.std.proofs.Common.{slice_get, None as Nothing}
use Rattle.std.proofs.{lemmas.List.append_assoc, lemmas.List.length-map, lemmas.List.get_or_default, lemmas.List.Elements.All-weaker, lemmas.Option.same_Some}
use Rattle.std.proofs.{lemmas.Option.cond_some, lemmas.Option.slice_get-get_or}
use Rattle.std.specs.List.{All, Contains}
use Rattle.rv_base.specs.declared.value.Value.{Value}
use Rattle.rv_tree.specs.{Tree.ProgramTree, Places.Identifier, Places.Sites, Places.flows, Places.site_of, Delays.Delay, Delays.node_delays}
use Rattle.rv_types.specs.Instances.{Right, Body, Output, IsRight, taken, clock_of, clock_in, clock_taken, clock_of_arguments, Instance, place, absolute}
use Rattle.rv_types.specs.Instances.{node_of, callee, IsInstance, is_main, is_callee, output_place, IsNode}
use Rattle.rv_types.specs.Needs.{Giver, Of, Gives, by_equation, by_call, flow_of, needs, needs_of, IsAmongFirst, IsSequence}
use Rattle.rv_types.specs.{declared.typed.Kind.Kind, declared.typed.Clock.TheVariants.Base, Clocks.pace, Kinds.kind_in_program, Kinds.decl_kinds}
use Rattle.rv_types.specs.{Kinds.flow_kind, Types.kind_of, Scopes.node_scope, Values.HasKind, Values.operand_kind, WellFormed.Suits, WellFormed.AreWell}
use Rattle.rv_types.specs.declared.typed.Kind.TheVariants as kind
use Rattle.rv_meaning.specs.Instants.{State, is_on_in, now, IsInstant, IsNext, AreGiven}
use Rattle.rv_meaning.specs.{Meaning.kept_place, Runs.Instant, Runs.cell, Runs.AreStarts, Following.IsTypedInstant}
use Rattle.rv_meaning.proofs.Standing.{body_stands, output_call, argument_stands, operand_stands}
use Rattle.rv_meaning.proofs.TypedTrees.{TypedAt, output_typed, tree_typed, value_typed}
use Rattle.rv_meaning.proofs.{Below.each_below, TypedOperators.chosen, Rows.no_flag, Acceptable.formed, Acceptable.typed, FlowSites.input_within}
use Rattle.rv_meaning.proofs.FlowSites.{input_kind}
use Rattle.rv_base.proofs.Lists.{all_right}

-- a type that is there
pub some_kind : (o : Option Kind) → IsSome o → o ≡ Some (unwrap_or o kind.Bool)
some_kind Nothing h = absurd (no_flag h)
some_kind (Some k) h = refl

-- each input has a type
some_input : (program : ProgramTree) (main : Identifier) (j : ℕ) → j < length (node_of program main).inputs
    → (k : Kind) × (slice_get (decl_kinds program (node_of program main).inputs) j ≡ Some k)
some_input program main j lt =
    let kinds = decl_kinds program (node_of program main).inputs in
    let many = length-map (node_of program main).inputs (λ d. kind_in_program program d.kind) in
    (get_or kinds j kind.Bool, slice_get-get_or kinds j kind.Bool (omega (arith, lt, many)))

module _ (program : ProgramTree) (main : Identifier) (well : AreWell program) (is_node : IsNode program main) (state : State) (inputs : ℕ → Value)
    (row : Instant) (starts : AreStarts program main state.kept) (given : AreGiven program main inputs)
    (instant : IsInstant program main state inputs row) where
  module _ (sequence : List Sites) (ordered : IsSequence program main sequence) where
    module _ (n : ℕ) (lt : n < length sequence) (earlier : (j : ℕ) → j < n → TypedAt program main row (get_or sequence j [])) where
      -- what a giver of this flow needs is known
      needed : (g : Giver) → Gives program main (get_or sequence n []) g → All (TypedAt program main row) (needs_of program g)
      needed g gives =
          All-weaker (IsAmongFirst program main sequence n) (TypedAt program main row)
          (λ q among. subst (TypedAt program main row) among.2 (earlier among.0 among.1)) (needs_of program g)
          (ordered.after n g lt gives)

      -- where it is an input
      by_input : (i : Instance) → IsInstance program main i → (x : Identifier) (k : Kind) (v : Value) → site_of i.node x < length i.node.inputs
          → get_or sequence n [] ≡ place i x
          → flow_kind program i.node x ≡ Some k → cell row (place i x) ≡ Some v → HasKind program k v
      by_input _ is_main x k v within is e has =
          let s : ℕ = site_of (node_of program main) x in
          let own = some_input program main s within in
          let same : own.0 ≡ k = same_Some own.0 k (sym (input_kind program (node_of program main) s own.0 own.1) ∙ e) in
          let value : inputs s ≡ v = same_Some _ v (sym (instant.given s within) ∙ has) in
          subst (HasKind program k) value (subst (λ k. HasKind program k (inputs s)) same (given s own.0 own.1))
      by_input _ (is_callee {i = i} c inst at) x k v within is e has =
          let d : Instance = callee program i c in
          let s : ℕ = site_of d.node x in
          let arg = (formed program main well is_node i inst).enough c s at within in
          let types = (typed program main well is_node i inst).argument c s arg.0 at arg.1 in
          let same : types.0 ≡ k = same_Some types.0 k (sym (input_kind program d.node s types.0 types.2) ∙ e) in
          let here = append_assoc i.path (c.site ∷ []) (s ∷ []) in
          let known = needed (Of i (clock_of_arguments i c.args) (Body arg.0)) (by_call i c s arg.0 inst at arg.1 (sym here ∙ sym is)) in
          value_typed program main well is_node row instant.clocks state starts i inst (clock_of_arguments i c.args) arg.0 k v
          (argument_stands i.node c s arg.0 at arg.1) ((formed program main well is_node i inst).argument_clock c s arg.0 at arg.1) known
          (types.1 ∙ ap Some same) (sym (instant.arguments i c s arg.0 inst at arg.1) ∙ ap (cell row) (sym here) ∙ has)

      -- where it has a right side
      by_right : (i : Instance) → IsInstance program main i → (x : Identifier) (r : Right) → IsRight i.node x r → (k : Kind) (v : Value)
          → get_or sequence n [] ≡ place i x
          → flow_kind program i.node x ≡ Some k → cell row (place i x) ≡ Some v → HasKind program k v
      by_right i inst x (Body e) right k v is kinds has =
          let types = (typed program main well is_node i inst).body x e right in
          let same : types.0 ≡ k = same_Some types.0 k (sym types.2 ∙ kinds) in
          let known = needed (Of i (clock_of i.node x) (Body e)) (by_equation i x (Body e) inst right (sym is)) in
          value_typed program main well is_node row instant.clocks state starts i inst (clock_of i.node x) e k v
          (body_stands i.node x e right) ((formed program main well is_node i inst).body_clock x e right) known
          (types.1 ∙ ap Some same) (sym (instant.equations i x (Body e) inst right) ∙ has)
      by_right i inst x (Output c j) right k v is kinds has =
          let types = (typed program main well is_node i inst).output x c j right in
          let same : types.0 ≡ k = same_Some types.0 k (sym types.2 ∙ kinds) in
          let clock = absolute i (clock_of_arguments i c.args) in
          let there = cond_some (is_on_in row clock) _ v (sym (instant.equations i x (Output c j) inst right) ∙ has) in
          let known = needed (Of i (clock_of i.node x) (Output c j)) (by_equation i x (Output c j) inst right (sym is)) in
          subst (HasKind program k) there.1
          (output_typed program main well is_node row instant.clocks i inst c j k (output_call i.node x c j right) (types.1 ∙ ap Some same) there.0
          (all_right (TypedAt program main row) (flow_of clock) _ known 0 (output_place program i c.site c.name j) (omega arith)))

      -- the flow has a value of its type
      flow_typed : TypedAt program main row (get_or sequence n [])
      flow_typed i x k v inst w is e has =
          let here : cell row (place i x) ≡ Some v = ap (cell row) (sym is) ∙ has in
          elim ((formed program main well is_node i inst).given_or_defined x w) [
            | inl input ↦ by_input i inst x k v (input_within i.node x input) is e here
            | inr right ↦ by_right i inst x right.0 right.1 k v is e here
          ]

    -- the flow at each place
    pub place_typed : (p : Sites) → TypedAt program main row p
    place_typed p i x k v inst w is e has =
        let at = ordered.flows p (i, x, inst, w, is) in
        let here : get_or sequence at.0 [] ≡ p = get_or_default sequence at.0 [] p at.1 ∙ at.2 in
        subst (TypedAt program main row) here
        (each_below (λ j. TypedAt program main row (get_or sequence j [])) (length sequence) flow_typed at.0 at.1) i x k v inst w is e has

    -- each flow that is there has a value of its type
    pub typed_instant : IsTypedInstant program main row
    typed_instant i x k v inst w e has = place_typed (place i x) i x k v inst w refl e has

    -- each memory after the instant has a value of its type
    pub typed_next : ((i : Instance) (d : Delay) → IsInstance program main i → Contains (node_delays i.node) d
        → Suits (taken Base (pace i.node d.operand)) (pace i.node d.operand))
        → (next : State) → IsNext program main state row next → AreStarts program main next.kept
    typed_next suits next after i d inst w =
        let k : Kind = operand_kind program i.node d.operand in
        subst (HasKind program k) (sym (after.memories i d inst w))
        (chosen program (is_on_in row (clock_in i Base d.operand)) k (now program state row i d.operand) (state.kept (kept_place i d.site d.operand))
        (λ there. tree_typed program main well is_node row instant.clocks state starts i inst (clock_taken i Base d.operand) d.operand k
        (operand_stands i.node d w) (suits i d inst w) there
        (λ j p lt. place_typed (get_or (needs program i (clock_taken i Base d.operand) d.operand) j p))
        (some_kind (kind_of (node_scope program i.node) d.operand) ((typed program main well is_node i inst).delay d w)))
        (starts i d inst w))
