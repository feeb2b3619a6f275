-- The positions of variables, and what the system of valuations has there.
use Rattle.std.proofs.Common.{◌≡◌, inl, inr, ℕ, zero, suc, ◌+◌, ◌-◌, ◌*◌, ◌<◌, Bool, true, false, ◌&&◌, cond, List, [], ◌∷◌, ◌++◌, length, length-append, refl}
use Rattle.std.proofs.Common.{sym, ◌∙◌, ap, subst, arith, Option, Some, None as Nothing}
use Rattle.std.proofs.lemmas.Bool.{and_parts, or_cases, and_from, or_left, or_right}
use Rattle.std.proofs.{lemmas.List.get_or-append-add, lemmas.List.Elements.Contains-append_left, lemmas.List.Elements.Contains-append_right}
use Rattle.std.specs.{Prelude.slice_index_or, List.Contains}
use Rattle.rv_tree.specs.Places.{Sites}
use Rattle.rv_types.specs.Lists.{Side, sides_of, Variable, MainTick, Tick, Kept, Next, Input, Test, with_copies}
use Rattle.rv_rows.specs.{declared.linear.Row.Row, Arithmetic.test_row, Tight.IsTightened}
use Rattle.rv_agreement.specs.Valuations.{Valuation, Reading, is_of_integers, Tested, IsPresent, Comparison, tested, tested_form, IsRowOf, width}
use Rattle.rv_agreement.specs.{Trees.System, Checks.same_sites}
use Rattle.rv_control.specs.Control.{state_bits, order_tests, has_side, is_present, row_among}
use Rattle.rv_control.specs.{Tightening.tightened, Named.same_side, Named.tick_variable}
use Rattle.rv_control.proofs.Listed.{IsStateBit, a_tick, a_bit, a_bit_of, IsTestBit, a_test, IsListed}
use Rattle.rv_control.proofs.{Names.side_told, Names.side_itself, Tightened.tightened_is}
use Rattle.rv_agreement.proofs.Chosen.{sites_itself, sites_told}
use Rattle.rv_types.proofs.{Members.cons_cases, Members.in_flat_map, Members.in_tail, Members.nothing_in, ChainLaws.no_flag, NamePlaces.length_copies}

-- Presence.
has_told : (sides : List Side) (side : Side) → has_side sides side ≡ true → Contains sides side
has_told [] side e = no_flag e
has_told (a ∷ rest) side e = elim (or_cases (same_side a side) (has_side rest side) e) [
  | inl here ↦ (0, omega arith, side_told a side here)
  | inr later ↦ in_tail a rest side (has_told rest side later)
]

has_there : (sides : List Side) (side : Side) → Contains sides side → has_side sides side ≡ true
has_there [] side w = nothing_in side w
has_there (a ∷ rest) side w = elim (cons_cases a rest side w) [
  | inl same ↦ or_left (same_side a side) (has_side rest side) (subst (λ b. same_side a b ≡ true) same (side_itself a))
  | inr later ↦ or_right (same_side a side) (has_side rest side) (has_there rest side later)
]

pub present_told : (t : Tested) (side : Side) → is_present t side ≡ true → IsPresent t side
present_told t side e =
    let r = and_parts t.there (is_of_integers t.operator t.left t.right && has_side (sides_of t.operator) side) e in
    let q = and_parts (is_of_integers t.operator t.left t.right) (has_side (sides_of t.operator) side) r.1 in
    record { there = r.0; whole = q.0; side_is = has_told (sides_of t.operator) side q.1 }

pub is_present_there : (t : Tested) (side : Side) → IsPresent t side → is_present t side ≡ true
is_present_there t side is = and_from t.there (is_of_integers t.operator t.left t.right && has_side (sides_of t.operator) side) is.there
    (and_from (is_of_integers t.operator t.left t.right) (has_side (sides_of t.operator) side) is.whole (has_there (sides_of t.operator) side is.side_is))

module _ (s : System) (w : Valuation) (row : List (Option Reading)) where
  -- The row of a test is that of a comparison there that is present.
  pub record HasRow (cs : List Comparison) (at : Sites) (side : Side) (r : Row) : Type 0 where
    pub comparison : Comparison
    pub there : Contains cs comparison
    pub place : comparison.at ≡ at
    pub is : IsRowOf (width s) w.test (tested s w row comparison) side r

  pub row_told : (cs : List Comparison) (at : Sites) (side : Side) (r : Row) → row_among s w row cs at side ≡ Some r → HasRow cs at side r
  unfolding row_among
  row_told [] at side r e = absurd (cc)
  row_told (c ∷ cs) at side r e = by (same_sites c.at at && is_present (tested s w row c) side) refl e (row_told cs at side r)
    where
      found : Row
      found = tightened (test_row (w.test c.at side) (tested_form (width s) w.test (tested s w row c) side))

      by : (b : Bool) → (same_sites c.at at && is_present (tested s w row c) side) ≡ b
          → cond b (Some (tightened (test_row (w.test c.at side) (tested_form (width s) w.test (tested s w row c) side)))) (row_among s w row cs at side)
          ≡ Some r
          → (row_among s w row cs at side ≡ Some r → HasRow cs at side r) → HasRow (c ∷ cs) at side r
      by true t e later =
          let parts = and_parts (same_sites c.at at) (is_present (tested s w row c) side) t in
          let same : tightened (test_row (w.test c.at side) (tested_form (width s) w.test (tested s w row c) side)) ≡ r = cc in
          record {
            comparison = c;
            there = (0, omega arith, refl);
            place = sites_told c.at at parts.0;
            is = (
              present_told (tested s w row c) side parts.1,
              subst
                  (IsTightened (test_row (w.test c.at side) (tested_form (width s) w.test (tested s w row c) side))) same (tightened_is _),
            );
          }
      by false t e later = let h = later e in record { comparison = h.comparison; there = in_tail c cs h.comparison h.there; place = h.place; is = h.is }

  -- Where a comparison there is present, the test has a row.
  pub row_there : (cs : List Comparison) (c : Comparison) (side : Side) → Contains cs c → IsPresent (tested s w row c) side
      → (r : Row) × (row_among s w row cs c.at side ≡ Some r)
  unfolding row_among
  row_there [] c side there is = nothing_in c there
  row_there (d ∷ cs) c side there is = by (same_sites d.at c.at && is_present (tested s w row d) side) refl (row_there cs c side)
    where
      by : (b : Bool) → (same_sites d.at c.at && is_present (tested s w row d) side) ≡ b
          → (Contains cs c → IsPresent (tested s w row c) side → (r : Row) × (row_among s w row cs c.at side ≡ Some r))
          → (r : Row) × (cond b (Some (tightened (test_row (w.test d.at side) (tested_form (width s) w.test (tested s w row d) side))))
          (row_among s w row cs c.at side) ≡ Some r)
      by true t later = (tightened (test_row (w.test d.at side) (tested_form (width s) w.test (tested s w row d) side)), refl)
      by false t later = elim (cons_cases d cs c there) [
        | inl same ↦ no_flag (sym t ∙ subst (λ (x : Comparison). (same_sites x.at c.at && is_present (tested s w row x) side) ≡ true) (sym same)
            (and_from (same_sites c.at c.at) (is_present (tested s w row c) side) (sites_itself c.at) (is_present_there (tested s w row c) side is)))
        | inr rest ↦ later rest is
      ]

-- Counts.
state_bits-append : (xs ys : List Variable) → state_bits (xs ++ ys) ≡ state_bits xs + state_bits ys
unfolding state_bits
state_bits-append [] ys = omega arith
state_bits-append (MainTick ∷ xs) ys = state_bits-append xs ys
state_bits-append (Tick p ∷ xs) ys = state_bits-append xs ys
state_bits-append (Kept p b ∷ xs) ys = state_bits-append xs ys
state_bits-append (Next ∷ xs) ys = let h = state_bits-append xs ys in omega (arith, h)
state_bits-append (Input j b ∷ xs) ys = state_bits-append xs ys
state_bits-append (Test p b ∷ xs) ys = state_bits-append xs ys

order_tests-append : (xs ys : List Variable) → order_tests (xs ++ ys) ≡ order_tests xs + order_tests ys
unfolding order_tests
order_tests-append [] ys = omega arith
order_tests-append (MainTick ∷ xs) ys = order_tests-append xs ys
order_tests-append (Tick p ∷ xs) ys = order_tests-append xs ys
order_tests-append (Kept p b ∷ xs) ys = order_tests-append xs ys
order_tests-append (Next ∷ xs) ys = order_tests-append xs ys
order_tests-append (Input j b ∷ xs) ys = order_tests-append xs ys
order_tests-append (Test p b ∷ xs) ys = let h = order_tests-append xs ys in omega (arith, h)

not_state : (x : Variable) (xs : List Variable) → (x ≡ Next → ⊥) → state_bits (x ∷ xs) ≡ state_bits xs
unfolding state_bits
not_state Next xs not = absurd (not refl)
not_state _ xs not = refl

none_state : (xs : List Variable) → ((x : Variable) → Contains xs x → x ≡ Next → ⊥) → state_bits xs ≡ 0
unfolding state_bits
none_state [] none = refl
none_state (x ∷ xs) none = not_state x xs (none x (0, omega arith, refl)) ∙ none_state xs (λ y w. none y (in_tail x xs y w))

copied_states : (xs : List Variable) → ((x : Variable) → Contains xs x → x ≡ Next → ⊥) → state_bits (with_copies xs) ≡ length xs
unfolding state_bits
copied_states [] none = refl
copied_states (x ∷ xs) none = not_state x (Next ∷ with_copies xs) (none x (0, omega arith, refl)) ∙ ap suc (copied_states xs (λ y w. none y (in_tail x xs y w)))

not_test : (x : Variable) (xs : List Variable) → ((p : Sites) (s : Side) → x ≡ Test p s → ⊥) → order_tests (x ∷ xs) ≡ order_tests xs
unfolding order_tests
not_test (Test p s) xs not = absurd (not p s refl)
not_test _ xs not = refl

none_test : (xs : List Variable) → ((x : Variable) → Contains xs x → (p : Sites) (s : Side) → x ≡ Test p s → ⊥) → order_tests xs ≡ 0
unfolding order_tests
none_test [] none = refl
none_test (x ∷ xs) none = not_test x xs (none x (0, omega arith, refl)) ∙ none_test xs (λ y w. none y (in_tail x xs y w))

copied_tests : (xs : List Variable) → ((x : Variable) → Contains xs x → (p : Sites) (s : Side) → x ≡ Test p s → ⊥) → order_tests (with_copies xs) ≡ 0
unfolding order_tests
copied_tests [] none = refl
copied_tests (x ∷ xs) none = not_test x (Next ∷ with_copies xs) (none x (0, omega arith, refl)) ∙ copied_tests xs (λ y w. none y (in_tail x xs y w))

all_tests : (xs : List Variable) → ((x : Variable) → Contains xs x → IsTestBit x) → order_tests xs ≡ length xs
unfolding order_tests
all_tests [] is = refl
all_tests (x ∷ xs) is = elim (is x (0, omega arith, refl)) [
  | a_test p side e ↦
      subst (λ y. order_tests (y ∷ xs) ≡ suc (length xs)) (sym e) (let h = all_tests xs (λ y w. is y (in_tail x xs y w)) in omega (arith, h))
]

-- the state bit with a number stands at twice the number
copied_at : (xs rest : List Variable) (i : ℕ) → i < length xs → slice_index_or (with_copies xs ++ rest) (2 * i) Next ≡ slice_index_or xs i Next
copied_at [] rest i lt = absurd (omega arith)
copied_at (x ∷ xs) rest zero lt = refl
copied_at (x ∷ xs) rest (suc i) lt =
    let e : 2 * suc i ≡ suc (suc (2 * i)) = omega arith in
    ap (λ k. slice_index_or (with_copies (x ∷ xs) ++ rest) k Next) e ∙ copied_at xs rest i (omega arith)

-- and its next copy after it
copy_at : (xs rest : List Variable) (i : ℕ) → i < length xs → slice_index_or (with_copies xs ++ rest) (2 * i + 1) Next ≡ Next
copy_at [] rest i lt = absurd (omega arith)
copy_at (x ∷ xs) rest zero lt = refl
copy_at (x ∷ xs) rest (suc i) lt =
    let e : 2 * suc i + 1 ≡ suc (suc (2 * i + 1)) = omega arith in
    ap (λ k. slice_index_or (with_copies (x ∷ xs) ++ rest) k Next) e ∙ copy_at xs rest i (omega arith)

tick_not_next : (t : Option Sites) → tick_variable t ≡ Next → ⊥
tick_not_next Nothing e = absurd (cc)
tick_not_next (Some p) e = absurd (cc)

tick_not_test : (t : Option Sites) (p : Sites) (side : Side) → tick_variable t ≡ Test p side → ⊥
tick_not_test Nothing p side e = absurd (cc)
tick_not_test (Some q) p side e = absurd (cc)

state_not_next : (s : System) (x : Variable) → IsStateBit s x → x ≡ Next → ⊥
state_not_next s x (a_tick t w is) e = tick_not_next t (sym is ∙ e)
state_not_next s x (a_bit m b lt less is) e = absurd (cc)

state_not_test : (s : System) (x : Variable) → IsStateBit s x → (p : Sites) (side : Side) → x ≡ Test p side → ⊥
state_not_test s x (a_tick t w is) p side e = tick_not_test t p side (sym is ∙ e)
state_not_test s x (a_bit m b lt less is) p side e = absurd (cc)

module _ (s : System) (names : List Variable) (listed : IsListed s names) where
  pub in_bits : (x : Variable) → Contains listed.bits x → Contains names x
  in_bits x w = subst (λ l. Contains l x) (sym listed.list) (Contains-append_left (with_copies listed.bits) (listed.given ++ listed.order) x
      (in_flat_map (λ v. v ∷ Next ∷ []) listed.bits x x w (0, omega arith, refl)))

  pub in_given : (x : Variable) → Contains listed.given x → Contains names x
  in_given x w = subst (λ l. Contains l x) (sym listed.list) (Contains-append_right (with_copies listed.bits) (listed.given ++ listed.order) x
      (Contains-append_left listed.given listed.order x w))

  pub in_order : (x : Variable) → Contains listed.order x → Contains names x
  in_order x w = subst (λ l. Contains l x) (sym listed.list) (Contains-append_right (with_copies listed.bits) (listed.given ++ listed.order) x
      (Contains-append_right listed.given listed.order x w))

  pub states_are : state_bits names ≡ length listed.bits
  states_are =
      let copies = copied_states listed.bits (λ x w. state_not_next s x (listed.state_bits x w)) in
      let inputs = none_state listed.given (λ x w e. elim (listed.input_bits x w) [ a_bit_of j b is ↦ absurd (cc) ]) in
      let tests = none_state listed.order (λ x w e. elim (listed.test_bits x w) [ a_test p side is ↦ absurd (cc) ]) in
      let a = state_bits-append (with_copies listed.bits) (listed.given ++ listed.order) in
      let b = state_bits-append listed.given listed.order in
      ap state_bits listed.list ∙ omega (arith, a, b, copies, inputs, tests)

  pub tests_are : order_tests names ≡ length listed.order
  tests_are =
      let copies = copied_tests listed.bits (λ x w. state_not_test s x (listed.state_bits x w)) in
      let inputs = none_test listed.given (λ x w p side e. elim (listed.input_bits x w) [ a_bit_of j b is ↦ absurd (cc) ]) in
      let tests = all_tests listed.order listed.test_bits in
      let a = order_tests-append (with_copies listed.bits) (listed.given ++ listed.order) in
      let b = order_tests-append listed.given listed.order in
      ap order_tests listed.list ∙ omega (arith, a, b, copies, inputs, tests)

  pub names_are : length names ≡ 2 * length listed.bits + (length listed.given + length listed.order)
  names_are =
      let a = length-append (with_copies listed.bits) (listed.given ++ listed.order) in
      let b = length-append listed.given listed.order in
      let c = length_copies listed.bits in
      ap length listed.list ∙ omega (arith, a, b, c)

  -- the variable of a state bit
  pub state_at : (i : ℕ) → i < length listed.bits → slice_index_or names (2 * i) Next ≡ slice_index_or listed.bits i Next
  state_at i lt = ap (λ l. slice_index_or l (2 * i) Next) listed.list ∙ copied_at listed.bits (listed.given ++ listed.order) i lt

  pub next_at : (i : ℕ) → i < length listed.bits → slice_index_or names (2 * i + 1) Next ≡ Next
  next_at i lt = ap (λ l. slice_index_or l (2 * i + 1) Next) listed.list ∙ copy_at listed.bits (listed.given ++ listed.order) i lt

  -- the variable of a test
  pub test_at : (j : ℕ) → j < length listed.order → slice_index_or names (length names - order_tests names + j) Next ≡ slice_index_or listed.order j Next
  test_at j lt =
      let copies = length_copies listed.bits in
      let e : length names - order_tests names + j ≡ length (with_copies listed.bits) + (length listed.given + j) = omega
      (arith, names_are, tests_are, copies) in
      ap (λ k. slice_index_or names k Next) e
      ∙ ap (λ l. slice_index_or l (length (with_copies listed.bits) + (length listed.given + j)) Next) listed.list
      ∙ get_or-append-add (with_copies listed.bits) (listed.given ++ listed.order) (length listed.given + j) Next
      ∙ get_or-append-add listed.given listed.order j Next
