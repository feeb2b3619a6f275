-- Where no memory or input holds an integer, no integer of a flat expression is larger than its weight.
use Rattle.std.proofs.Common.{◌≡◌, inl, inr, ℕ, zero, suc, ◌+◌, ◌^◌, ◌<◌, ◌≤◌, max, Bool, true, false, ◌&&◌, cond, nat_abs, List, [], length, get_or, sym, ◌∙◌}
use Rattle.std.proofs.Common.{ap, subst, arith, Option, Some, None as Nothing}
use Rattle.std.proofs.{Math.ListN.length-map, Math.Nat.eq-or-lt_of_le, lemmas.Bool.leb-true, lemmas.Bool.ltb-true, lemmas.Int.ints}
use Rattle.std.specs.Prelude.{nat_lt, nat_le, slice_get}
use Rattle.rv_base.specs.declared.value.Value.TheVariants.{Flag, Label, Whole}
use Rattle.rv_base.specs.{declared.value.Value.Value, Limits.heaviest}
use Rattle.rv_tree.specs.{declared.tree.Op.Op, Places.Sites}
use Rattle.rv_tree.specs.declared.tree.Op.TheVariants as op
use Rattle.rv_types.specs.{declared.typed.Kind.Kind, Types.same_kind}
use Rattle.rv_types.specs.declared.typed.Kind.TheVariants as kind
use Rattle.rv_meaning.specs.Meaning.{is_true, number, operate}
use Rattle.rv_agreement.specs.Agreement.{State, found_in, IsWholeInstant}
use Rattle.rv_agreement.specs.Checks.{same_clock, is_of, gives, clock_fits, fits, form_fits}
use Rattle.rv_agreement.specs.Evaluation.{Found, value, form_value, integers, item_value}
use Rattle.rv_agreement.specs.Trees.{FlatTree, Node, TreeForm, Constant, Flow, Memory, Input, Binary, Scale, If, When, Current, System, memory_kinds, nth_item}
use Rattle.rv_flat.specs.FlatInstants.{Row, nth, held, is_on_at, flow_items, system_of}
use Rattle.rv_flat.specs.Facts.{constant_weight, weight_under, flat_weight, form_flat_weight, flow_weights, is_light, form_is_light}
use Rattle.rv_flat.specs.{declared.flat.Flat.Flat, Systems.flow_item}
use Rattle.rv_flat.proofs.{FlowWeights.item_light, FlowWeights.weight_kth, Tested.ItemFits, Tested.flow_fits, Tested.operator_fits, Weighing.size}
use Rattle.rv_base.proofs.Truths.{both_of}
use Rattle.rv_types.proofs.{ChainLaws.no_flag, Weights.product_small}

-- an operator gives no more than its operands allow
operated_small : (o : Op) (k : Kind) (x y : Value) (v w : ℕ) → gives o k ≡ true → size x ≤ v → size y ≤ w → size (operate o false x y) ≤ weight_under o v w
operated_small op.Plus k x y v w e g h = omega (arith, ints)
operated_small op.Minus k x y v w e g h = omega (arith, ints)
operated_small op.Arrow k x y v w e g h = no_flag e
operated_small op.Times k x y v w e g h = no_flag e
operated_small op.Slash k x y v w e g h = no_flag e
operated_small op.Div k x y v w e g h = no_flag e
operated_small op.Mod k x y v w e g h = no_flag e
operated_small _ k x y v w e g h = omega arith

constant_small : (v : Value) → size v ≤ constant_weight v
constant_small (Flag b) = omega arith
constant_small (Label l) = omega arith
constant_small (Whole z) = omega arith

chosen_small : (c : Bool) (x y : Value) (v w : ℕ) → size x ≤ v → size y ≤ w → size (cond c x y) ≤ max v w
chosen_small true x y v w g h = omega arith
chosen_small false x y v w g h = omega arith

-- where the flows have these weights, and the first of them, as many as are said, keep to them
module _ (s : System) (ws : List ℕ) (found : Found Value) (row : Row) (n : ℕ)
    (kept_small : (m : ℕ) → size (found.kept m) ≤ 1) (inputs_small : (j : ℕ) → size (found.given j) ≤ 1)
    (row_small : (k : ℕ) → k < n → size (held (nth row k)) ≤ get_or ws k 0) where
  abbrev worth : FlatTree → Value
  worth e = value Value integers found row e

  -- the operand of a `when`, and what a `current` shows
  when_fits : (k : Option ℕ) (j : Kind) (at : Sites) (c : ℕ) (e : FlatTree) → form_fits s n k j at (When c e) ≡ true
      → fits s n (nth_item s.flows c).clock j e ≡ true
  when_fits k j at c e fit =
      let outer = both_of (same_clock k (Some c)) (clock_fits s n (Some c) && fits s n (nth_item s.flows c).clock j e) fit in
      (both_of (clock_fits s n (Some c)) (fits s n (nth_item s.flows c).clock j e) outer.1).1

  current_fits : (k : Option ℕ) (j : Kind) (at : Sites) (m : ℕ) (i : Option ℕ) (e : FlatTree) → form_fits s n k j at (Current m i e) ≡ true
      → fits s n i j e ≡ true
  current_fits k j at m i e fit =
      let outer = both_of (is_of j (slice_get (memory_kinds s) m)) (clock_fits s n i && fits s n i j e) fit in
      (both_of (clock_fits s n i) (fits s n i j e) outer.1).1

  mutual
    pub value_small : (k : Option ℕ) (j : Kind) (e : FlatTree) → fits s n k j e ≡ true → is_light ws e ≡ true
        → size (value Value integers found row e) ≤ flat_weight ws e
    value_small k j (Node at form) fit light = form_small k j at form fit (both_of (nat_le (form_flat_weight ws form) heaviest) (form_is_light ws form) light).1

    form_small : (k : Option ℕ) (j : Kind) (at : Sites) (form : TreeForm) → form_fits s n k j at form ≡ true → form_is_light ws form ≡ true
        → size (form_value Value integers found row at form) ≤ form_flat_weight ws form
    form_small k j at (Constant c) fit light = constant_small c
    form_small k j at (Flow c) fit light =
        row_small c (ltb-true c n (both_of (nat_lt c n) (is_of j (slice_get s.kinds c) && same_clock k (nth_item s.flows c).clock) fit).0)
    form_small k j at (Memory m) fit light = kept_small m
    form_small k j at (Input i) fit light = inputs_small i
    form_small k j at (Binary o a b) fit light =
        let told = operator_fits s n k j at o a b fit in
        let light_both = both_of (is_light ws a) (is_light ws b) light in
        operated_small o j (worth a) (worth b) (flat_weight ws a) (flat_weight ws b) told.0
        (value_small k told.1.0 a told.1.1 light_both.0) (value_small k told.1.0 b told.1.2 light_both.1)
    form_small k j at (Scale z e) fit light =
        product_small z (number (worth e)) (flat_weight ws e)
        (value_small k kind.Int e (both_of (same_kind j kind.Int) (fits s n k kind.Int e) fit).1
        (both_of (nat_le (nat_abs z) heaviest) (is_light ws e) light).1)
    form_small k j at (If c a b) fit light =
        let outer = both_of (fits s n k kind.Bool c) (fits s n k j a && fits s n k j b) fit in
        let parts = both_of (fits s n k j a) (fits s n k j b) outer.1 in
        let light_outer = both_of (is_light ws c) (is_light ws a && is_light ws b) light in
        let light_parts = both_of (is_light ws a) (is_light ws b) light_outer.1 in
        chosen_small (is_true (worth c)) (worth a) (worth b) (flat_weight ws a) (flat_weight ws b)
        (value_small k j a parts.0 light_parts.0) (value_small k j b parts.1 light_parts.1)
    form_small k j at (When c e) fit light = value_small (nth_item s.flows c).clock j e (when_fits k j at c e fit) light
    form_small k j at (Current m i e) fit light =
        chosen_small (is_on_at row i) (worth e) (found.kept m) (flat_weight ws e) 1
        (value_small i j e (current_fits k j at m i e fit) light) (kept_small m)
    form_small k j at _ fit light = omega arith

module _ (f : Flat) (now : State) (inputs : List Value) (row : Row) (instant : IsWholeInstant (system_of f) now inputs row)
    (kept_small : (m : ℕ) → size (get_or now.kept m (Flag false)) ≤ 1) (inputs_small : (j : ℕ) → size (get_or inputs j (Flag false)) ≤ 1) where
  abbrev ws : List ℕ
  ws = flow_weights (flow_items f)

  count : length (flow_items f) ≡ length f.flows
  count = length-map f.flows (flow_item f.memories)

  fit_at : (m : ℕ) → m < length f.flows → ItemFits (system_of f) m (nth_item (flow_items f) m)
  fit_at m lt =
      subst (λ n. ItemFits (system_of f) n (nth_item (flow_items f) m)) (let e : 0 + m ≡ m = omega arith in e)
      (flow_fits (system_of f) 0 (flow_items f) m f.flows_fit (omega (arith, count, lt)))

  weight_at : (m : ℕ) → m < length f.flows → get_or ws m 0 ≡ flat_weight ws (nth_item (flow_items f) m).body
  weight_at m lt = ap (λ j. get_or ws j 0) (let e : m ≡ 0 + m = omega arith in e)
      ∙ weight_kth (system_of f) [] (flow_items f) m f.flows_fit (omega (arith, count, lt))

  flow_light : (m : ℕ) → m < length f.flows → is_light ws (nth_item (flow_items f) m).body ≡ true
  flow_light m lt = item_light ws (flow_items f) m f.flows_light (omega (arith, count, lt))

  light_held : (e : FlatTree) → is_light ws e ≡ true → flat_weight ws e ≤ 2 ^ 40
  light_held (Node at form) light =
      leb-true (form_flat_weight ws form) heaviest (both_of (nat_le (form_flat_weight ws form) heaviest) (form_is_light ws form) light).0

  -- each flow keeps to its weight
  row_small : (m : ℕ) → m ≤ length f.flows → (k : ℕ) → k < m → size (held (nth row k)) ≤ get_or ws k 0
  row_small zero le k lt = absurd (omega arith)
  row_small (suc m) le k lt =
      let before = row_small m (omega arith) in
      elim (eq-or-lt_of_le {n = k} {m = m} (omega arith)) [
        | inl same ↦ subst (λ j. size (held (nth row j)) ≤ get_or ws j 0) (sym same) (here m (omega arith) before)
        | inr below ↦ before k below
      ]
    where
      chosen : (b : Bool) (v : Value) (w : ℕ) → size v ≤ w → size (held (cond b (Some v) Nothing)) ≤ w
      chosen true v w small = small
      chosen false v w small = omega arith

      here : (m : ℕ) → m < length f.flows → ((k : ℕ) → k < m → size (held (nth row k)) ≤ get_or ws k 0) → size (held (nth row m)) ≤ get_or ws m 0
      here m lt before =
          let item = nth_item (flow_items f) m in
          let fit = fit_at m lt in
          let small = value_small (system_of f) ws (found_in now inputs) row m kept_small inputs_small before item.clock fit.kind item.body fit.body
          (flow_light m lt) in
          subst (λ o. size (held o) ≤ get_or ws m 0) (sym (instant.holds m (omega (arith, count, lt))))
          (subst (λ w. size (held (item_value Value integers (found_in now inputs) row item)) ≤ w) (sym (weight_at m lt))
          (chosen (is_on_at row item.clock) (value Value integers (found_in now inputs) row item.body) (flat_weight ws item.body) small))

  pub flow_small : (k : ℕ) → k < length f.flows → size (held (nth row k)) ≤ 2 ^ 40
  flow_small k lt =
      let small = row_small (length f.flows) (omega arith) k lt in
      let is = weight_at k lt in
      let light = light_held (nth_item (flow_items f) k).body (flow_light k lt) in
      omega (arith, small, is, light)
