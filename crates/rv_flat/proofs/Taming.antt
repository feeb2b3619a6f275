-- At an instant each expression of a flat system is within an `i128`, and so are its parts, and it names flows of the row.
use Rattle.std.proofs.Common.{◌≡◌, ℕ, zero, suc, ◌+◌, ◌*◌, ◌^◌, ◌<◌, ◌≤◌, Bool, true, false, cond, List, [], ◌∷◌, length, map, get_or, sym, ◌∙◌, ap, subst}
use Rattle.std.proofs.Common.{arith, inl, inr, Option, None as Nothing, Some}
use Rattle.std.proofs.lemmas.Bool.{cases_lt, cond_both, ltb-true}
use Rattle.std.proofs.{lemmas.List.get_or_past, lemmas.Int.ints, Math.ListN.length-map, Math.Nat.eq-or-lt_of_le}
use Rattle.std.specs.Prelude.{nat_le, nat_lt, slice_get}
use Rattle.rv_base.specs.{declared.value.Value.TheVariants.Flag, declared.value.Value.TheVariants.Whole, declared.value.Value.Value, Limits.heaviest}
use Rattle.rv_tree.specs.Places.{Sites}
use Rattle.rv_types.specs.declared.typed.Kind.TheVariants as kind
use Rattle.rv_meaning.specs.Meaning.{is_true}
use Rattle.rv_agreement.specs.{Agreement.IsNamed, Checks.clock_fits, Checks.is_of, Evaluation.Found, Evaluation.value, Evaluation.integers, Trees.FlatTree}
use Rattle.rv_agreement.specs.{Trees.Node, Trees.Item}
use Rattle.rv_flat.specs.FlatInstants.{Row, nth, held, is_on_at, found_at, flow_items, memory_items, assertion_trees, nth_item, system_of, value_at}
use Rattle.rv_flat.specs.FlatInstants.{IsFlatInstant}
use Rattle.rv_flat.specs.Facts.{flat_weight, form_flat_weight, flow_weights, is_light, form_is_light}
use Rattle.rv_flat.specs.Systems.{asserted, assertion_item, flow_item, kept_of, memory_item}
use Rattle.rv_flat.specs.{declared.flat.Flat.Flat, declared.parts.FlatExpr.FlatExpr, declared.parts.FlatMemory.FlatMemory, declared.state.State.State}
use Rattle.rv_flat.specs.{FlatOf.no_assertion, Filling.IsFilled, Inlined.inlined, Inlined.table_of, Inlined.tree_among, RawTree.RawTree, RawTree.raw_tree}
use Rattle.rv_flat.specs.{Steps.IsInRange, Steps.AreValues, Steps.IsState, Steps.input_kinds, Tame.IsHeld, Tame.IsOver, Tame.IsTame}
use Rattle.rv_flat.specs.RawTree as raw
use Rattle.rv_flat.proofs.OneRow.{IsItemOver, fits_kth, item_over, over_kth}
use Rattle.rv_flat.proofs.Weighing.{size, held_small, tame_held, weighed}
use Rattle.rv_flat.proofs.{Inlining.items_kept, Tested.ItemFits, Tested.assertion_fits, Tested.memory_fits, FlowWeights.item_light, FlowWeights.weight_kth}
use Rattle.rv_base.proofs.Truths.{both_of}

range_small : (v : Value) → IsInRange v → size v ≤ 2 ^ 63
range_small (Whole z) r = omega (arith, ints, r.0, r.1)
range_small _ r = omega arith

-- values within the range, and what stands past their end
values_small : (values : List Value) → ((k : ℕ) → k < length values → IsInRange (get_or values k (Flag false))) → (k : ℕ)
    → size (get_or values k (Flag false)) ≤ 2 ^ 63
values_small values within k = elim (cases_lt k (length values)) [
  | inl lt ↦ range_small (get_or values k (Flag false)) (within k lt)
  | inr le ↦ subst (λ v. size v ≤ 2 ^ 63) (sym (get_or_past values k (Flag false) le)) (omega arith)
]

-- How an assertion has its body: as a choice of it where its clock is there, or as a whole.
pub data IsAsserted : RawTree → Option ℕ → RawTree → Type 0 where
  whole : (e : RawTree) → IsAsserted e Nothing e
  always : (at there absent : Sites) (body : RawTree) → IsAsserted (raw.Node at
      (raw.If (raw.Node there (raw.Constant (Flag true))) body (raw.Node absent (raw.Constant (Flag true))))) Nothing body
  on_flow : (at there absent : Sites) (c : ℕ) (body : RawTree) → IsAsserted
      (raw.Node at (raw.If (raw.Node there (raw.Flow c)) body (raw.Node absent (raw.Constant (Flag true))))) (Some c) body

pub asserted_is : (e : RawTree) → IsAsserted e (asserted e).0 (asserted e).1
asserted_is (raw.Node at (raw.If (raw.Node there (raw.Constant (Flag true))) body (raw.Node absent (raw.Constant (Flag true))))) = always at there absent body
asserted_is (raw.Node at (raw.If (raw.Node there (raw.Flow c)) body (raw.Node absent (raw.Constant (Flag true))))) = on_flow at there absent c body
asserted_is e = whole e

-- the flow of a clock has a small integer
abbrev IsClockHeld : Row → Option ℕ → Type 0
IsClockHeld row Nothing = Unit {0}
IsClockHeld row (Some c) = IsHeld (held (nth row c))

flag_held : (b : Bool) → IsHeld (Flag b)
flag_held b = omega arith

-- so what its body is, the whole is
module _ (table : ℕ → Item) where
  asserted_over : (n : ℕ) (e : RawTree) (k : Option ℕ) (body : RawTree) → IsAsserted e k body → IsNamed n k → IsOver n (inlined table body)
      → IsOver n (inlined table e)
  asserted_over n e k body (whole x) named is = is
  asserted_over n e k body (always at there absent x) named is = (tt, (is, tt))
  asserted_over n e k body (on_flow at there absent c x) named is = (named, (is, tt))

  asserted_tame : (found : Found Value) (row : Row) (e : RawTree) (k : Option ℕ) (body : RawTree) → IsAsserted e k body → IsClockHeld row k
      → IsTame found row (inlined table body) → IsTame found row (inlined table e)
  asserted_tame found row e k body (whole x) clock is = is
  asserted_tame found row e k body (always at there absent x) clock is
      = (tame_held found row (inlined table x) is, ((flag_held true, tt), (is, (flag_held true, tt))))
  asserted_tame found row e k body (on_flow at there absent c x) clock is = (
    cond_both (is_true (held (nth row c))) (value Value integers found row (inlined table x)) (Flag true) IsHeld
        (λ t. tame_held found row (inlined table x) is) (λ t. flag_held true),
    ((clock, tt), (is, (flag_held true, tt))),
  )

-- the whole of an assertion
whole_at : (memories : List FlatMemory) (es : List FlatExpr) (k : ℕ) (P : FlatTree → Type 0) → k < length es
    → ((e : FlatExpr) → nth_item (map (assertion_item memories) es) k ≡ assertion_item memories e → P (tree_among memories e))
    → P (get_or (map (tree_among memories) es) k no_assertion)
whole_at memories [] k P lt each = absurd (omega arith)
whole_at memories (x ∷ es) zero P lt each = each x (λ i. assertion_item memories x)
whole_at memories (x ∷ es) (suc k) P lt each = whole_at memories es k P (omega arith) each

module _ (f : Flat) (now : State) (inputs : List Value) (state : IsState f now) (given : AreValues f (input_kinds f) inputs) where
  abbrev ws : List ℕ
  ws = flow_weights (flow_items f)

  abbrev found : Found Value
  found = found_at now inputs

  kept_small : (m : ℕ) → size (get_or now.kept m (Flag false)) ≤ 2 ^ 63
  kept_small = values_small now.kept state.kept.within

  inputs_small : (j : ℕ) → size (get_or inputs j (Flag false)) ≤ 2 ^ 63
  inputs_small = values_small inputs given.within

  count : length (flow_items f) ≡ length f.flows
  count = length-map f.flows (flow_item f.memories)

  weight_at : (m : ℕ) → m < length f.flows → get_or ws m 0 ≡ flat_weight ws (nth_item (flow_items f) m).body
  weight_at m lt = ap (λ j. get_or ws j 0) (let e : m ≡ 0 + m = omega arith in e)
      ∙ weight_kth (system_of f) [] (flow_items f) m f.flows_fit (omega (arith, count))

  flow_light : (m : ℕ) → m < length f.flows → is_light ws (nth_item (flow_items f) m).body ≡ true
  flow_light m lt = item_light ws (flow_items f) m f.flows_light (omega (arith, count))

  -- no flow weighs more than the limit
  light_held : (e : FlatTree) → is_light ws e ≡ true → nat_le (flat_weight ws e) heaviest ≡ true
  light_held (Node at form) light = (both_of (nat_le (form_flat_weight ws form) heaviest) (form_is_light ws form) light).0

  weight_light : (m : ℕ) → m < length f.flows → nat_le (get_or ws m 0) heaviest ≡ true
  weight_light m lt = subst (λ w. nat_le w heaviest ≡ true) (sym (weight_at m lt)) (light_held (nth_item (flow_items f) m).body (flow_light m lt))

  -- the first flows keep to their weights
  module _ (n : ℕ) (row : Row) (le : n ≤ length f.flows) (filled : IsFilled f now inputs n row) where
    row_small : (m : ℕ) → m ≤ n → (k : ℕ) → k < m → size (held (nth row k)) ≤ get_or ws k 0 * 2 ^ 63
    row_small zero less k lt = absurd (omega arith)
    row_small (suc m) less k lt =
        let before = row_small m (omega arith) in
        elim (eq-or-lt_of_le {n = k} {m = m} (omega arith)) [
          | inl same ↦ subst (λ j. size (held (nth row j)) ≤ get_or ws j 0 * 2 ^ 63) (sym same) (here m (omega arith) before)
          | inr below ↦ before k below
        ]
      where
        here : (m : ℕ) → m < n → ((k : ℕ) → k < m → size (held (nth row k)) ≤ get_or ws k 0 * 2 ^ 63) → size (held (nth row m)) ≤ get_or ws m 0 * 2 ^ 63
        here m lt before =
            let item = nth_item (flow_items f) m in
            let fit = fits_kth f now inputs m (omega arith) in
            let light = flow_light m (omega arith) in
            let small = (weighed (system_of f) ws found row m kept_small inputs_small before item.clock fit.kind item.body fit.body light).0 in
            subst (λ o. size (held o) ≤ get_or ws m 0 * 2 ^ 63) (sym (filled.holds m lt))
            (subst (λ w. size (held (cond (is_on_at row item.clock) (Some (value_at now inputs row item.body)) Nothing)) ≤ w * 2 ^ 63)
            (sym (weight_at m (omega arith))) (chosen (is_on_at row item.clock) (value_at now inputs row item.body) (flat_weight ws item.body) small))
          where
            chosen : (b : Bool) (v : Value) (w : ℕ) → size v ≤ w * 2 ^ 63 → size (held (cond b (Some v) Nothing)) ≤ w * 2 ^ 63
            chosen true v w small = small
            chosen false v w small = omega arith

    pub flow_tame : n < length f.flows → IsTame (found_at now inputs) row (nth_item (flow_items f) n).body
    flow_tame lt =
        let item = nth_item (flow_items f) n in
        let fit = fits_kth f now inputs n lt in
        (weighed (system_of f) ws found row n kept_small inputs_small (row_small n (omega arith)) item.clock fit.kind item.body fit.body (flow_light n lt)).1

    pub flow_over : n < length f.flows → IsOver (length row) (nth_item (flow_items f) n).body
    flow_over lt = subst (λ m. IsOver m (nth_item (flow_items f) n).body) (sym filled.flows) (over_kth f now inputs n lt).1

  -- at an instant
  module _ (row : Row) (instant : IsFlatInstant f now inputs row) where
    instant_small : (k : ℕ) → k < length (flow_items f) → size (held (nth row k)) ≤ get_or ws k 0 * 2 ^ 63
    instant_small k lt = row_small (length f.flows) row (omega arith) (record { flows = instant.flows; holds = instant.holds }) (length f.flows) (omega arith) k
        (omega (arith, count))

    long : length (flow_items f) ≡ length row
    long = count ∙ sym instant.flows

    memory_fit : (m : ℕ) → m < length f.memories → ItemFits (system_of f) (length (flow_items f)) (nth_item (memory_items f) m)
    memory_fit m lt =
        subst (λ xs. ItemFits (system_of f) (length (flow_items f)) (nth_item xs m)) (items_kept f.memories f.memories)
        (memory_fits (system_of f) (map (kept_of f.memories) f.memories) m f.memories_fit (omega (arith, length-map f.memories (kept_of f.memories))))

    -- an item that fits and is light is tame
    fit_tame : (x : Item) → ItemFits (system_of f) (length (flow_items f)) x → is_light ws x.body ≡ true → IsTame (found_at now inputs) row x.body
    fit_tame x fit light =
        (weighed (system_of f) ws found row (length (flow_items f)) kept_small inputs_small instant_small x.clock fit.kind x.body fit.body light).1

    pub memory_tame : (m : ℕ) → m < length f.memories → IsTame (found_at now inputs) row (nth_item (memory_items f) m).body
    memory_tame m lt = fit_tame (nth_item (memory_items f) m) (memory_fit m lt)
        (item_light ws (memory_items f) m f.memories_light (omega (arith, length-map f.memories (memory_item f.memories))))

    pub memory_over : (m : ℕ) → m < length f.memories → IsOver (length row) (nth_item (memory_items f) m).body
    memory_over m lt = subst (λ n. IsOver n (nth_item (memory_items f) m).body) long
        (item_over (system_of f) (length (flow_items f)) (nth_item (memory_items f) m) (memory_fit m lt)).1

    -- an assertion by its body, and then as a whole
    clock_held : (k : Option ℕ) → clock_fits (system_of f) (length (flow_items f)) k ≡ true → IsClockHeld row k
    clock_held Nothing fit = tt
    clock_held (Some c) fit =
        let lt = ltb-true c (length (flow_items f)) (both_of (nat_lt c (length (flow_items f))) (is_of kind.Bool (slice_get (system_of f).kinds c)) fit).0 in
        held_small (held (nth row c)) (get_or ws c 0) (instant_small c lt) (weight_light c (omega (arith, count, lt)))

    item_fits : (k : ℕ) → k < length f.assertions → ItemFits (system_of f) (length (flow_items f)) (nth_item (map (assertion_item f.memories) f.assertions) k)
    item_fits k lt = assertion_fits (system_of f) (map (assertion_item f.memories) f.assertions) k f.assertions_fit
        (omega (arith, length-map f.assertions (assertion_item f.memories)))

    item_tame : (k : ℕ) → k < length f.assertions → IsTame (found_at now inputs) row (nth_item (map (assertion_item f.memories) f.assertions) k).body
    item_tame k lt = fit_tame (nth_item (map (assertion_item f.memories) f.assertions) k) (item_fits k lt)
        (item_light ws (map (assertion_item f.memories) f.assertions) k f.assertions_light (omega (arith, length-map f.assertions (assertion_item f.memories))))

    pub assertion_tame : (k : ℕ) → k < length f.assertions → IsTame (found_at now inputs) row (get_or (assertion_trees f) k no_assertion)
    assertion_tame k lt = whole_at f.memories f.assertions k (IsTame (found_at now inputs) row) lt (λ e is.
        let t = raw_tree e in
        asserted_tame (table_of f.memories) found row t (asserted t).0 (asserted t).1 (asserted_is t)
        (subst (λ (x : Item). IsClockHeld row x.clock) is (clock_held (nth_item (map (assertion_item f.memories) f.assertions) k).clock (item_fits k lt).clock))
        (subst (λ (x : Item). IsTame found row x.body) is (item_tame k lt)))

    pub assertion_over : (k : ℕ) → k < length f.assertions → IsOver (length row) (get_or (assertion_trees f) k no_assertion)
    assertion_over k lt = subst (λ n. IsOver n (get_or (assertion_trees f) k no_assertion)) long
        (whole_at f.memories f.assertions k (IsOver (length (flow_items f))) lt (λ e is.
        let t = raw_tree e in
        let over = subst (λ (x : Item). IsItemOver (length (flow_items f)) x) is
        (item_over (system_of f) (length (flow_items f)) (nth_item (map (assertion_item f.memories) f.assertions) k) (item_fits k lt)) in
        asserted_over (table_of f.memories) (length (flow_items f)) t (asserted t).0 (asserted t).1 (asserted_is t) over.0 over.1))
