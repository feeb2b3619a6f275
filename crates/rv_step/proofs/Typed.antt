-- By what a flat system keeps in its type, each memory whose clock is there takes a value of its type.
use Rattle.std.proofs.Common.{◌≡◌, ℕ, zero, suc, ◌+◌, ◌<◌, ◌*ℤ◌, Bool, true, false, not, ◌&&◌, cond, List, [], ◌∷◌, map, length, get_or, refl, sym, ◌∙◌}
use Rattle.std.proofs.Common.{ap, subst, arith, Option, Some, None as Nothing, slice_get, nat_lt}
use Rattle.std.proofs.lemmas.Option.{get_or_from_slice_get, slice_get_within}
use Rattle.std.proofs.{lemmas.Bool.eqb-true, lemmas.Bool.ltb-true, lemmas.Simd.map-map, Math.ListN.length-map}
use Rattle.std.specs.Prelude.{ℤ, nat_le}
use Rattle.rv_base.specs.declared.value.Value.{Value}
use Rattle.rv_base.specs.declared.value.Value.TheVariants.{Flag, Whole}
use Rattle.rv_tree.specs.{declared.tree.Op.Op, Places.Sites}
use Rattle.rv_tree.specs.declared.tree.Op.TheVariants as op
use Rattle.rv_types.specs.{declared.typed.Kind.Kind, Types.same_kind}
use Rattle.rv_types.specs.declared.typed.Kind.TheVariants as kind
use Rattle.rv_meaning.specs.Meaning.{is_true, number, operate}
use Rattle.rv_agreement.specs.Checks.{clock_fits, constant_fits, fits, form_fits, all_fit, flows_fit, gives, is_of, item_fits, memories_fit, same_clock}
use Rattle.rv_agreement.specs.Trees.{FlatTree, Node, TreeForm, Constant, Flow, Memory, Ticked, Input, Not, Binary, Scale, If, AtMostOne, When, Current, Item}
use Rattle.rv_agreement.specs.Trees.{Kept, System, kind_at, memory_kinds as kinds_kept}
use Rattle.rv_agreement.specs.Evaluation.{Found, form_value, integers, trues, value}
use Rattle.rv_flat.specs.FlatInstants.{Row, nth, held, is_on, is_on_at, found_at, flow_items, memory_items, nth_item, system_of, value_at, IsFlatInstant}
use Rattle.rv_flat.specs.Steps.{AreTaken, AreValues, IsState, input_kinds, label_counts, memory_kinds}
use Rattle.rv_flat.specs.{declared.flat.Flat.Flat, declared.state.State.State, Systems.flow_item, Systems.kept_of}
use Rattle.rv_flat.proofs.Tested.{current_fits, if_fits, operator_fits}
use Rattle.rv_flat.proofs.Inlining.{items_kept}
use Rattle.rv_meaning.proofs.Below.{each_below}
use Rattle.rv_types.proofs.{ChainLaws.no_flag, Verdicts.kind_same}
use Rattle.rv_base.proofs.Truths.{and_first, both_of}

-- what a truth value, an integer, an operator and a choice have is of their types
module _ (labels : List ℕ) where
  flag_fits : (j : Kind) (b : Bool) → same_kind j kind.Bool ≡ true → constant_fits labels j (Flag b) ≡ true
  flag_fits kind.Bool b e = refl
  flag_fits _ b e = no_flag e

  whole_fits : (j : Kind) (z : ℤ) → same_kind j kind.Int ≡ true → constant_fits labels j (Whole z) ≡ true
  whole_fits kind.Int z e = refl
  whole_fits _ z e = no_flag e

  operated_fits : (o : Op) (j : Kind) (a b : Value) → gives o j ≡ true → constant_fits labels j (operate o false a b) ≡ true
  operated_fits op.Plus kind.Int a b e = refl
  operated_fits op.Plus _ a b e = no_flag e
  operated_fits op.Minus kind.Int a b e = refl
  operated_fits op.Minus _ a b e = no_flag e
  operated_fits op.Arrow j a b e = no_flag e
  operated_fits op.Times j a b e = no_flag e
  operated_fits op.Slash j a b e = no_flag e
  operated_fits op.Div j a b e = no_flag e
  operated_fits op.Mod j a b e = no_flag e
  operated_fits _ kind.Bool a b e = refl
  operated_fits _ _ a b e = no_flag e

  chosen_fits : (j : Kind) (b : Bool) (x y : Value) → constant_fits labels j x ≡ true → constant_fits labels j y ≡ true
      → constant_fits labels j (cond b x y) ≡ true
  chosen_fits j true x y first second = first
  chosen_fits j false x y first second = second

clock_told : (k j : Option ℕ) → same_clock k j ≡ true → k ≡ j
clock_told Nothing Nothing e = refl
clock_told (Some k) (Some n) e = ap Some (eqb-true k n e)
clock_told _ _ e = no_flag e

-- the type at a number
kind_told : (j : Kind) (o : Option Kind) → is_of j o ≡ true → o ≡ Some j
kind_told j Nothing e = no_flag e
kind_told j (Some k) e = ap Some (kind_same k j e)

-- Where what the memories, the inputs and the first flows have is of their types, so is what an expression over these has where its clock is there.
module _ (s : System) (found : Found Value) (row : Row) (kept : (m : ℕ) (j : Kind) → slice_get (kinds_kept s) m ≡ Some j
    → constant_fits s.labels j (found.kept m) ≡ true)
    (given : (i : ℕ) (j : Kind) → slice_get s.inputs i ≡ Some j → constant_fits s.labels j (found.given i) ≡ true) (n : ℕ)
    (clocks : (c : ℕ) → c < n → is_on_at row (Some c) ≡ true → is_on_at row (nth_item s.flows c).clock ≡ true)
    (before : (c : ℕ) (j : Kind) → c < n → slice_get s.kinds c ≡ Some j → is_on_at row (nth_item s.flows c).clock ≡ true
    → constant_fits s.labels j (held (nth row c)) ≡ true) where
  abbrev has : FlatTree → Value
  has e = value Value integers found row e

  shown_fits : (j : Kind) (b : Bool) (i : Option ℕ) → is_on_at row i ≡ b → (x y : Value) → (is_on_at row i ≡ true → constant_fits s.labels j x ≡ true)
      → constant_fits s.labels j y ≡ true → constant_fits s.labels j (cond b x y) ≡ true
  shown_fits j true i is x y shown held = shown is
  shown_fits j false i is x y shown held = held

  mutual
    value_fits : (k : Option ℕ) (j : Kind) (e : FlatTree) → fits s n k j e ≡ true → is_on_at row k ≡ true
        → constant_fits s.labels j (value Value integers found row e) ≡ true
    value_fits k j (Node at form) fit on = form_value_fits k j at form fit on

    form_value_fits : (k : Option ℕ) (j : Kind) (at : Sites) (form : TreeForm) → form_fits s n k j at form ≡ true → is_on_at row k ≡ true
        → constant_fits s.labels j (form_value Value integers found row at form) ≡ true
    form_value_fits k j at (Constant v) fit on = fit
    form_value_fits k j at (Flow c) fit on =
        let clock = (nth_item s.flows c).clock in
        let outer = both_of (nat_lt c n) (is_of j (slice_get s.kinds c) && same_clock k clock) fit in
        let parts = both_of (is_of j (slice_get s.kinds c)) (same_clock k clock) outer.1 in
        before c j (ltb-true c n outer.0) (kind_told j (slice_get s.kinds c) parts.0) (ap (is_on_at row) (sym (clock_told k clock parts.1)) ∙ on)
    form_value_fits k j at (Memory m) fit on = kept m j (kind_told j (slice_get (kinds_kept s) m) fit)
    form_value_fits k j at (Ticked t) fit on =
        flag_fits s.labels j (found.ticked t) (and_first (same_kind j kind.Bool) (nat_lt t (length s.ticks)) fit)
    form_value_fits k j at (Input i) fit on = given i j (kind_told j (slice_get s.inputs i) fit)
    form_value_fits k j at (Not e) fit on =
        flag_fits s.labels j (not (is_true (has e))) (and_first (same_kind j kind.Bool) (fits s n k kind.Bool e) fit)
    form_value_fits k j at (Binary o a b) fit on = operated_fits s.labels o j (has a) (has b) (operator_fits s n k j at o a b fit).0
    form_value_fits k j at (Scale z e) fit on =
        whole_fits s.labels j (z *ℤ number (has e)) (and_first (same_kind j kind.Int) (fits s n k kind.Int e) fit)
    form_value_fits k j at (If c a b) fit on =
        let parts = if_fits s n k j at c a b fit in
        chosen_fits s.labels j (is_true (has c)) (has a) (has b) (value_fits k j a parts.1 on) (value_fits k j b parts.2 on)
    form_value_fits k j at (AtMostOne es) fit on =
        flag_fits s.labels j (nat_le (trues Value integers found row es) 1) (and_first (same_kind j kind.Bool) (all_fit s n k es) fit)
    form_value_fits k j at (When c e) fit on =
        let clock = (nth_item s.flows c).clock in
        let outer = both_of (same_clock k (Some c)) (clock_fits s n (Some c) && fits s n clock j e) fit in
        let inner = both_of (clock_fits s n (Some c)) (fits s n clock j e) outer.1 in
        let lt = ltb-true c n (and_first (nat_lt c n) (is_of kind.Bool (slice_get s.kinds c)) inner.0) in
        value_fits clock j e inner.1 (clocks c lt (ap (is_on_at row) (sym (clock_told k (Some c) outer.0)) ∙ on))
    form_value_fits k j at (Current m i e) fit on =
        let own = and_first (is_of j (slice_get (kinds_kept s) m)) (clock_fits s n i && fits s n i j e) fit in
        let parts = current_fits s n k j at m i e fit in
        shown_fits j (is_on_at row i) i refl (has e) (found.kept m) (λ there. value_fits i j e parts.1 there)
        (kept m j (kind_told j (slice_get (kinds_kept s) m) own))

-- the test of the k-th flow, and of a memory of a type
flow_test : (s : System) (first : ℕ) (xs : List Item) (k : ℕ) → flows_fit s first xs ≡ true → k < length xs
    → item_fits s (first + k) (kind_at s.kinds (first + k)) (nth_item xs k) ≡ true
flow_test s first [] k e lt = absurd (omega arith)
flow_test s first (x ∷ xs) zero e lt =
    subst (λ n. item_fits s n (kind_at s.kinds n) x ≡ true) (let same : first ≡ first + 0 = omega arith in same)
    (both_of (item_fits s first (kind_at s.kinds first) x) (flows_fit s (first + 1) xs) e).0
flow_test s first (x ∷ xs) (suc k) e lt =
    subst (λ n. item_fits s n (kind_at s.kinds n) (nth_item xs k) ≡ true) (let same : (first + 1) + k ≡ first + suc k = omega arith in same)
    (flow_test s (first + 1) xs k (both_of (item_fits s first (kind_at s.kinds first) x) (flows_fit s (first + 1) xs) e).1 (omega arith))

memory_test : (s : System) (ms : List Kept) (m : ℕ) (j : Kind) → memories_fit s ms ≡ true → slice_get (map (λ x. x.kind) ms) m ≡ Some j
    → item_fits s (length s.flows) j (nth_item (map (λ x. x.item) ms) m) ≡ true
memory_test s [] m j e is = absurd (let bad : Nothing ≡ Some j = is in (cc))
memory_test s (x ∷ ms) zero j e is =
    let same : x.kind ≡ j = cc in
    subst (λ i. item_fits s (length s.flows) i x.item ≡ true) same (both_of (item_fits s (length s.flows) x.kind x.item) (memories_fit s ms) e).0
memory_test s (x ∷ ms) (suc m) j e is = memory_test s ms m j (both_of (item_fits s (length s.flows) x.kind x.item) (memories_fit s ms) e).1 is

-- An instant at a state and inputs.
module _ (f : Flat) (now : State) (inputs : List Value) (row : Row) (state : IsState f now) (given : AreValues f (input_kinds f) inputs)
    (instant : IsFlatInstant f now inputs row) where
  abbrev item : ℕ → Item
  item c = nth_item (flow_items f) c

  same_kinds : kinds_kept (system_of f) ≡ memory_kinds f
  same_kinds = map-map (λ (x : Kept). x.kind) (kept_of f.memories) f.memories

  kept_fits : (m : ℕ) (j : Kind) → slice_get (kinds_kept (system_of f)) m ≡ Some j → constant_fits (label_counts f) j (get_or now.kept m (Flag false)) ≡ true
  kept_fits m j e =
      let is : slice_get (memory_kinds f) m ≡ Some j = ap (λ ks. slice_get ks m) (sym same_kinds) ∙ e in
      state.kept.typed m j (slice_get_within (memory_kinds f) m j is) is

  given_fits : (i : ℕ) (j : Kind) → slice_get (input_kinds f) i ≡ Some j → constant_fits (label_counts f) j (get_or inputs i (Flag false)) ≡ true
  given_fits i j e = given.typed i j (slice_get_within (input_kinds f) i j e) e

  -- a clock that is there is a flow that is
  clock_there : (c : ℕ) → c < length f.flows → is_on_at row (Some c) ≡ true → is_on_at row (item c).clock ≡ true
  clock_there c lt on = by (is_on_at row (item c).clock) refl
    where
      by : (b : Bool) → is_on_at row (item c).clock ≡ b → b ≡ true
      by true is = refl
      by false is =
          let absent : nth row c ≡ Nothing = instant.holds c lt ∙ ap (λ t. cond t (Some (value_at now inputs row (item c).body)) Nothing) is in
          no_flag (ap is_on (sym absent) ∙ on)

  flow_fits_at : (c : ℕ) → c < length f.flows → (j : Kind) → slice_get (system_of f).kinds c ≡ Some j
      → item_fits (system_of f) c j (item c) ≡ true
  flow_fits_at c lt j is =
      subst (λ i. item_fits (system_of f) c i (item c) ≡ true) (get_or_from_slice_get (system_of f).kinds c j kind.Bool is)
      (subst (λ n. item_fits (system_of f) n (kind_at (system_of f).kinds n) (item c) ≡ true) (let same : 0 + c ≡ c = omega arith in same)
      (flow_test (system_of f) 0 (flow_items f) c f.flows_fit (omega (arith, length-map f.flows (flow_item f.memories)))))

  abbrev FlowFits : ℕ → Type 0
  FlowFits c = (j : Kind) → slice_get (system_of f).kinds c ≡ Some j → is_on_at row (item c).clock ≡ true
      → constant_fits (label_counts f) j (held (nth row c)) ≡ true

  flows_are_fit : (c : ℕ) → c < length f.flows → FlowFits c
  flows_are_fit = each_below FlowFits (length f.flows) (λ n less before j is on.
      let there : nth row n ≡ Some (value_at now inputs row (item n).body) =
      instant.holds n less ∙ ap (λ b. cond b (Some (value_at now inputs row (item n).body)) Nothing) on in
      let test = both_of (clock_fits (system_of f) n (item n).clock) (fits (system_of f) n (item n).clock j (item n).body) (flow_fits_at n less j is) in
      subst (λ o. constant_fits (label_counts f) j (held o) ≡ true) (sym there)
      (value_fits (system_of f) (found_at now inputs) row kept_fits given_fits n (λ c low. clock_there c (omega arith)) (λ c i low. before c low i)
      (item n).clock j (item n).body test.1 on))

  pub are_taken : AreTaken f now inputs row
  are_taken m j lt is on =
      let many : length (flow_items f) ≡ length f.flows = length-map f.flows (flow_item f.memories) in
      let body = nth_item (memory_items f) m in
      let own : slice_get (map (λ (x : Kept). x.kind) (map (kept_of f.memories) f.memories)) m ≡ Some j = ap (λ ks. slice_get ks m) same_kinds ∙ is in
      let test = subst (λ xs. item_fits (system_of f) (length (flow_items f)) j (nth_item xs m) ≡ true) (items_kept f.memories f.memories)
      (memory_test (system_of f) (map (kept_of f.memories) f.memories) m j f.memories_fit own) in
      let parts = both_of (clock_fits (system_of f) (length (flow_items f)) body.clock) (fits (system_of f) (length (flow_items f)) body.clock j body.body)
          test in
      value_fits (system_of f) (found_at now inputs) row kept_fits given_fits (length (flow_items f)) (λ c low. clock_there c (omega (arith, many, low)))
      (λ c i low. flows_are_fit c (omega (arith, many, low)) i)
      body.clock j body.body parts.1 on
