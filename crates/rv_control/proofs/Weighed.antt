-- The rows and updates of a flat system are within the limits that its weights set.
use Rattle.std.proofs.Common.{◌≡◌, inl, inr, ℕ, zero, suc, ◌+◌, ◌<◌, ◌≤◌, max, Bool, true, false, ◌&&◌, cond, nat_eq, List, [], ◌∷◌, ◌++◌, length, sym, ◌∙◌, ap}
use Rattle.std.proofs.Common.{subst, arith, Option, Some, None as Nothing}
use Rattle.std.proofs.{Math.Nat.eq-or-lt_of_le, lemmas.Bool.and_parts, lemmas.Bool.leb-true, lemmas.List.Elements.Contains-append_cases}
use Rattle.std.specs.{Prelude.slice_index_or, Prelude.nat_abs, Prelude.nat_le, List.Contains}
use Rattle.rv_base.specs.{declared.value.Value.Value, Limits.heaviest}
use Rattle.rv_base.specs.declared.value.Value.TheVariants as value
use Rattle.rv_tree.specs.{declared.tree.Op.Op, Places.Sites}
use Rattle.rv_tree.specs.declared.tree.Op.TheVariants as op
use Rattle.rv_types.specs.{declared.typed.Kind.Kind, Lists.Side, Lists.AtMost, Lists.AtLeast, Lists.sides_of, Variables.is_integer}
use Rattle.rv_types.specs.declared.typed.Kind.TheVariants as kind
use Rattle.rv_rows.specs.{declared.linear.Form.Form, Arithmetic.column_form}
use Rattle.rv_agreement.specs.Trees.{FlatTree, Node, TreeForm, FlatTrees, Constant, Flow, Memory, Input, Not, Binary, Scale, If, AtMostOne, When, Current, None}
use Rattle.rv_agreement.specs.Trees.{More, Item, nth_item, System, memory_items, memory_kinds, memory_places, kind_at}
use Rattle.rv_agreement.specs.Valuations.{Valuation, Reading, holds_true, form_of, operated, constant_reading, spelled, width, rank, whole_count, reads_at}
use Rattle.rv_agreement.specs.Valuations.{found_at, IsSymbolic, Comparison, is_placed, own, comparisons, form_comparisons, comparisons_of, side_form, read}
use Rattle.rv_agreement.specs.Valuations.{updated}
use Rattle.rv_agreement.specs.Agreement.{IsRule, Fits, FormFits, ItemFits, IsWell, forms_from}
use Rattle.rv_agreement.specs.{Evaluation.nth, Evaluation.held, Evaluation.is_there, Evaluation.form_value, Evaluation.item_value, Checks.flows_fit}
use Rattle.rv_agreement.proofs.Matching.{in_own}
use Rattle.rv_flat.specs.Facts.{constant_weight, weight_under, flat_weight, form_flat_weight, is_light, form_is_light, all_light, flow_weights}
use Rattle.rv_flat.proofs.FlowWeights.{weight_kth}
use Rattle.rv_control.proofs.Bounded.{IsBounded, looser, constant_bounded, zero_bounded, column_bounded, sum_bounded, times_bounded, difference_bounded}
use Rattle.rv_types.proofs.Members.{nothing_in}

-- a choice of two, and an operator between two
module _ (columns : ℕ) (test : Sites → Side → Bool) where
  abbrev Has : ℕ → Reading → Type 0
  Has n a = IsBounded columns n (form_of columns test a)

  chosen_bounded : (b : Bool) (m n : ℕ) (p q : Reading) → Has m p → Has n q → Has (max m n) (cond b p q)
  chosen_bounded true m n p q a b = looser columns m (max m n) (form_of columns test p) (omega arith) a
  chosen_bounded false m n p q a b = looser columns n (max m n) (form_of columns test q) (omega arith) b

  constant_has : (c : Value) → Has (constant_weight c) (constant_reading columns test c)
  constant_has (value.Whole z) = constant_bounded columns z
  constant_has _ = zero_bounded columns 0

  spelled_has : (labels : List ℕ) (k : Kind) (bits : ℕ → Bool) (c : ℕ) → Has 1 (spelled labels k bits (column_form columns c))
  spelled_has labels kind.Int bits c = column_bounded columns c
  spelled_has labels _ bits c = zero_bounded columns 1

  operated_has : (at : Sites) (o : Op) (i j : Kind) (a b : Reading) (m n : ℕ) → IsRule o i j → Has m a → Has n b
      → Has (weight_under o m n) (operated columns test at o a b)
  operated_has at op.Arrow i j a b m n rule p q = absurd rule
  operated_has at op.Plus i j a b m n rule p q = sum_bounded columns m n (form_of columns test a) (form_of columns test b) p q
  operated_has at op.Minus i j a b m n rule p q = difference_bounded columns m n (form_of columns test a) (form_of columns test b) p q
  operated_has at op.Times i j a b m n rule p q = absurd rule
  operated_has at op.Slash i j a b m n rule p q = absurd rule
  operated_has at op.Div i j a b m n rule p q = absurd rule
  operated_has at op.Mod i j a b m n rule p q = absurd rule
  operated_has at _ i j a b m n rule p q = zero_bounded columns 0

  pub side_bounded : (side : Side) (f g : Form) (n : ℕ) → IsBounded columns n f → IsBounded columns n g → IsBounded columns (n + n) (side_form side f g)
  side_bounded AtMost f g n a b = difference_bounded columns n n f g a b
  side_bounded AtLeast f g n a b = difference_bounded columns n n g f b a

module _ (s : System) (w : Valuation) (row : List (Option Reading)) (ws : List ℕ) where
  abbrev HasHere : ℕ → Reading → Type 0
  HasHere n a = IsBounded (width s) n (form_of (width s) w.test a)

  abbrev flow_read : ℕ → Reading
  flow_read k = held Reading (reads_at s w) (nth Reading (reads_at s w) row k)

  module _ (n : ℕ) (flows : (k : ℕ) → k < n → HasHere (slice_index_or ws k 0) (flow_read k)) where
    mutual
      pub bounded : (k : Option ℕ) (j : Kind) (e : FlatTree) → Fits s n k j e → HasHere (flat_weight ws e) (read s w row e)
      bounded k j (Node at form) fit = form_bounded k j at form fit

      form_bounded : (k : Option ℕ) (j : Kind) (at : Sites) (form : TreeForm) → FormFits s n k j at form
          → HasHere (form_flat_weight ws form) (form_value Reading (reads_at s w) (found_at s w) row at form)
      form_bounded k j at (Constant c) fit = constant_has (width s) w.test c
      form_bounded k j at (Flow c) fit = flows c fit.0
      form_bounded k j at (Memory m) fit = spelled_has (width s) w.test s.labels (kind_at (memory_kinds s) m)
          (w.kept (slice_index_or (memory_places s) m [])) (rank (memory_kinds s) m)
      form_bounded k j at (Input i) fit = looser (width s) 1 1 _ (omega arith)
          (spelled_has (width s) w.test s.labels (kind_at s.inputs i) (w.input i) (whole_count (memory_kinds s) + rank s.inputs i))
      form_bounded k j at (Binary o a b) fit = operated_has (width s) w.test at o fit.0 j (read s w row a) (read s w row b) (flat_weight ws a)
          (flat_weight ws b) fit.1 (bounded k fit.0 a fit.3) (bounded k fit.0 b fit.4)
      form_bounded k j at (Scale z e) fit = times_bounded (width s) z (flat_weight ws e) (form_of (width s) w.test (read s w row e))
          (bounded k kind.Int e fit.1)
      form_bounded k j at (If c a b) fit = chosen_bounded (width s) w.test (holds_true (read s w row c)) (flat_weight ws a) (flat_weight ws b)
          (read s w row a) (read s w row b) (bounded k j a fit.1) (bounded k j b fit.2)
      form_bounded k j at (When c e) fit = bounded (nth_item s.flows c).clock j e fit.2
      form_bounded k j at (Current m i e) fit = chosen_bounded (width s) w.test (is_there Reading (reads_at s w) row i) (flat_weight ws e) 1
          (read s w row e) ((found_at s w).kept m) (bounded i j e fit.4)
          (spelled_has (width s) w.test s.labels (kind_at (memory_kinds s) m) (w.kept (slice_index_or (memory_places s) m [])) (rank (memory_kinds s) m))
      form_bounded k j at _ fit = zero_bounded (width s) 0

    pub item_bounded : (j : Kind) (x : Item) → ItemFits s n j x
        → HasHere (flat_weight ws x.body) (held Reading (reads_at s w) (item_value Reading (reads_at s w) (found_at s w) row x))
    item_bounded j x fit = by (is_there Reading (reads_at s w) row x.clock) (bounded x.clock j x.body fit.1)
      where
        by : (b : Bool) → HasHere (flat_weight ws x.body) (read s w row x.body)
            → HasHere (flat_weight ws x.body) (held Reading (reads_at s w) (cond b (Some (read s w row x.body)) Nothing))
        by true h = h
        by false h = zero_bounded (width s) (flat_weight ws x.body)

-- each part of a light expression is light
module _ (ws : List ℕ) where
  pub light_weight : (e : FlatTree) → is_light ws e ≡ true → flat_weight ws e ≤ heaviest
  light_weight (Node at form) light = leb-true (form_flat_weight ws form) heaviest
      (and_parts (nat_le (form_flat_weight ws form) heaviest) (form_is_light ws form) light).0

  light_form : (at : Sites) (form : TreeForm) → is_light ws (Node at form) ≡ true → form_is_light ws form ≡ true
  light_form at form light = (and_parts (nat_le (form_flat_weight ws form) heaviest) (form_is_light ws form) light).1

  abbrev AreLight : Comparison → Type 0
  AreLight c = (flat_weight ws c.left ≤ heaviest) × (flat_weight ws c.right ≤ heaviest)

  module _ (flows : List Item) where
    mutual
      pub compared_light : (k : Option ℕ) (e : FlatTree) → is_light ws e ≡ true → (c : Comparison) → Contains (comparisons flows k e) c → AreLight c
      compared_light k (Node at form) light c w = form_compared_light k at form (light_form at form light) c w

      form_compared_light : (k : Option ℕ) (at : Sites) (form : TreeForm) → form_is_light ws form ≡ true → (c : Comparison)
          → Contains (form_comparisons flows k at form) c → AreLight c
      form_compared_light k at (Not e) light c w = compared_light k e light c w
      form_compared_light k at (Binary o a b) light c w =
          let y : Comparison = record { at = at; clock = k; operator = o; left = a; right = b } in
          let lefts = comparisons flows k a in
          let rights = comparisons flows k b in
          let both = and_parts (is_light ws a) (is_light ws b) light in
          elim (Contains-append_cases (own o y) (lefts ++ rights) c w) [
            | inl here ↦ subst AreLight (in_own (is_placed at) (nat_eq (length (sides_of o)) 0) y c here) (light_weight a both.0, light_weight b both.1)
            | inr rest ↦ elim (Contains-append_cases lefts rights c rest) [ inl u ↦ compared_light k a both.0 c u | inr u ↦ compared_light k b both.1 c u ]
          ]
      form_compared_light k at (Scale z e) light c w = compared_light k e (and_parts (nat_le (nat_abs z) heaviest) (is_light ws e) light).1 c w
      form_compared_light k at (If t a b) light c w =
          let first = and_parts (is_light ws t) (is_light ws a && is_light ws b) light in
          let both = and_parts (is_light ws a) (is_light ws b) first.1 in
          elim (Contains-append_cases (comparisons flows k t) (comparisons flows k a ++ comparisons flows k b) c w) [
            | inl here ↦ compared_light k t first.0 c here
            | inr rest ↦ elim (Contains-append_cases (comparisons flows k a) (comparisons flows k b) c rest)
                [ inl u ↦ compared_light k a both.0 c u | inr u ↦ compared_light k b both.1 c u ]
          ]
      form_compared_light k at (AtMostOne es) light c w = all_compared_light k es light c w
      form_compared_light k at (When x e) light c w = compared_light (nth_item flows x).clock e light c w
      form_compared_light k at _ light c w = nothing_in c w

      all_compared_light : (k : Option ℕ) (es : FlatTrees) → all_light ws es ≡ true → (c : Comparison) → Contains (comparisons_of flows k es) c → AreLight c
      all_compared_light k None light c w = nothing_in c w
      all_compared_light k (More e es) light c w =
          let both = and_parts (is_light ws e) (all_light ws es) light in
          elim (Contains-append_cases (comparisons flows k e) (comparisons_of flows k es) c w) [
            | inl here ↦ compared_light k e both.0 c here
            | inr rest ↦ all_compared_light k es both.1 c rest
          ]

-- what is true of each form is true of those of the integer memories
pub forms_have : (P : Form → Type 0) (ks : List Kind) (f : ℕ → Form) (k : ℕ) (d : Form) → ((m : ℕ) → m < length ks → P (f m)) → k < whole_count ks
    → P (slice_index_or (forms_from ks f) k d)
forms_have P [] f k d all lt = absurd (omega arith)
forms_have P (j ∷ ks) f k d all lt = by (is_integer j) k lt (λ i less. forms_have P ks (λ m. f (suc m)) i d (λ m under. all (suc m) (omega (arith, under)))
    less)
  where
    by : (b : Bool) (i : ℕ) → i < cond b 1 0 + whole_count ks → ((n : ℕ) → n < whole_count ks → P (slice_index_or (forms_from ks (λ m. f (suc m))) n d))
        → P (slice_index_or (cond b (f 0 ∷ forms_from ks (λ m. f (suc m))) (forms_from ks (λ m. f (suc m)))) i d)
    by true zero less later = all 0 (omega arith)
    by true (suc i) less later = later i (omega (arith, less))
    by false i less later = later i (omega (arith, less))

-- The weights of a flat system bound what its flows have.
module _ (s : System) (well : IsWell s) (w : Valuation) (row : List (Option Reading)) (symbolic : IsSymbolic s w row) (fit : flows_fit s 0 s.flows ≡ true) where
  abbrev ws : List ℕ
  ws = flow_weights s.flows

  abbrev AreBounded : ℕ → Type 0
  AreBounded n = (k : ℕ) → k < n → IsBounded (width s) (slice_index_or ws k 0) (form_of (width s) w.test (flow_read s w row ws k))

  -- one flow more
  one_bounded : (n : ℕ) → n < length s.flows → AreBounded n → AreBounded (suc n)
  one_bounded n last before k lt =
      let weight : slice_index_or ws n 0 ≡ flat_weight ws (nth_item s.flows n).body = (let e : n ≡ 0 + n = omega arith in ap (λ i. slice_index_or ws i 0) e)
      ∙ weight_kth s [] s.flows n fit last in
      let here : IsBounded (width s) (slice_index_or ws n 0) (form_of (width s) w.test (flow_read s w row ws n)) =
      subst (λ a. IsBounded (width s) (slice_index_or ws n 0) (form_of (width s) w.test (held Reading (reads_at s w) a))) (sym (symbolic.holds n last))
      (subst (λ v. IsBounded (width s) v (form_of (width s) w.test
      (held Reading (reads_at s w) (item_value Reading (reads_at s w) (found_at s w) row (nth_item s.flows n))))) (sym weight)
      (item_bounded s w row ws n before (kind_at s.kinds n) (nth_item s.flows n) (well.flows n last))) in
      elim (eq-or-lt_of_le {n = k} {m = n} (omega arith)) [
        | inl same ↦ subst (λ i. IsBounded (width s) (slice_index_or ws i 0) (form_of (width s) w.test (flow_read s w row ws i))) (sym same) here
        | inr below ↦ before k below
      ]

  flows_bounded : (n : ℕ) → n ≤ length s.flows → (k : ℕ) → k < n
      → IsBounded (width s) (slice_index_or ws k 0) (form_of (width s) w.test (flow_read s w row ws k))
  flows_bounded zero le k lt = absurd (omega arith)
  flows_bounded (suc n) le k lt = one_bounded n (omega arith) (flows_bounded n (omega arith)) k lt

  pub expression_bounded : (k : Option ℕ) (j : Kind) (e : FlatTree) → Fits s (length s.flows) k j e
      → IsBounded (width s) (flat_weight ws e) (form_of (width s) w.test (read s w row e))
  expression_bounded = bounded s w row ws (length s.flows) (flows_bounded (length s.flows) (omega arith))

  -- the form of a memory after the instant
  pub updated_bounded : (m : ℕ) → m < length s.memories → flat_weight ws (nth_item (memory_items s) m).body ≤ heaviest
      → IsBounded (width s) heaviest (form_of (width s) w.test (updated s w row m))
  updated_bounded m lt light =
      let x = nth_item (memory_items s) m in
      let a = expression_bounded x.clock (kind_at (memory_kinds s) m) x.body (well.memories m lt).1 in
      let b = spelled_has (width s) w.test s.labels (kind_at (memory_kinds s) m) (w.kept (slice_index_or (memory_places s) m [])) (rank (memory_kinds s) m) in
      looser (width s) (max (flat_weight ws x.body) 1) heaviest (form_of (width s) w.test (updated s w row m)) (omega (arith, light))
      (chosen_bounded (width s) w.test (is_there Reading (reads_at s w) row x.clock) (flat_weight ws x.body) 1 (read s w row x.body) ((found_at s w).kept m)
      a b)
