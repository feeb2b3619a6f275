-- Valuations that say the same of all that a flat system names have the same symbolic instant, rows and next state.
use Rattle.std.proofs.Common.{◌≡◌, inl, inr, ℕ, zero, suc, ◌+◌, ◌^◌, ◌<◌, ℤ, Bool, true, false, not, ◌&&◌, cond, List, [], ◌∷◌, ◌++◌, length, refl, sym, ◌∙◌}
use Rattle.std.proofs.Common.{ap, subst, arith, Option, Some, None as Nothing}
use Rattle.std.proofs.lemmas.List.{length-map}
use Rattle.std.proofs.lemmas.List.Elements.{Contains-append_left, Contains-append_right, Contains-append_cases, Contains-get_or}
use Rattle.std.specs.{Prelude.slice_index_or, Prelude.nat_le, List.Contains}
use Rattle.rv_base.specs.declared.value.Value.{Value}
use Rattle.rv_base.specs.declared.value.Value.TheVariants as value
use Rattle.rv_tree.specs.{declared.tree.Op.Op, Places.Sites}
use Rattle.rv_tree.specs.declared.tree.Op.TheVariants as op
use Rattle.rv_types.specs.{declared.typed.Kind.Kind, Lists.Side, Lists.AtMost, Lists.AtLeast, Lists.sides_of, Variables.is_integer, Variables.bits_for}
use Rattle.rv_types.specs.declared.typed.Kind.TheVariants as kind
use Rattle.rv_meaning.specs.Codes.{code}
use Rattle.rv_rows.specs.Arithmetic.{form_sum, form_difference, form_times, test_row, column_form}
use Rattle.rv_rows.specs.{declared.linear.Row.Row, declared.linear.Form.Form, Tight.IsTightened}
use Rattle.rv_agreement.specs.Trees.{FlatTree, Node, TreeForm, FlatTrees, Constant, Flow, Memory, Ticked, Input, Not, Binary, Scale, If, AtMostOne, When}
use Rattle.rv_agreement.specs.Trees.{Current, None, More, Item, nth_item, no_item, System, memory_items, memory_kinds, memory_places, kind_at}
use Rattle.rv_agreement.specs.Evaluation.{is_on, held, is_there, form_value, trues, item_value}
use Rattle.rv_agreement.specs.Valuations.{Valuation, Reading, Truth, Name, Linear, holds_true, is_linear, form_of, is_same, operated, constant_reading, spelled}
use Rattle.rv_agreement.specs.Valuations.{width, rank, whole_count, reads_at, found_at, IsSymbolic, Comparison, is_placed, own, comparisons, form_comparisons}
use Rattle.rv_agreement.specs.Valuations.{comparisons_of, item_comparisons, all_items, all_comparisons, IsPresent, side_form, tested_form, IsRowOf, read}
use Rattle.rv_agreement.specs.Valuations.{tested, Agrees, IsCodedAs, IsCoded}
use Rattle.rv_agreement.specs.Agreement.{State, IsSpelled, Spells, IsRule, IsPlaced, Fits, FormFits, AllFit, ItemFits, IsNamed, IsWell, bit_count}
use Rattle.rv_agreement.proofs.Matching.{read_in, wider_item, Inside, inside, own_there}
use Rattle.rv_types.proofs.{Members.in_flat_map, Members.of_flat_map, ChainLaws.no_flag}

-- No expression of another type than int has a form.
abbrev pub NoControlForms : Type 0
NoControlForms = (s : System) (v : Valuation) (symbolic : List (Option Reading)) (k : Option ℕ) (j : Kind) (e : FlatTree)
    → IsWell s → IsSymbolic s v symbolic → Fits s (length s.flows) k j e → is_integer j ≡ false → is_linear (read s v symbolic e) ≡ false

-- The two say the same of each tick, of each bit of a control memory or input, and of each test of a comparison.
pub record IsLike (s : System) (v w : Valuation) : Type 0 where
  pub ticks : (k : ℕ) → k < length s.ticks → v.ticked (slice_index_or s.ticks k Nothing) ≡ w.ticked (slice_index_or s.ticks k Nothing)
  pub memories : (m b : ℕ) → m < length s.memories → b < bit_count s.labels (kind_at (memory_kinds s) m)
      → v.kept (slice_index_or (memory_places s) m []) b ≡ w.kept (slice_index_or (memory_places s) m []) b
  pub inputs : (j b : ℕ) → j < length s.inputs → b < bit_count s.labels (kind_at s.inputs j) → v.input j b ≡ w.input j b
  pub tests : (c : Comparison) (side : Side) → Contains (all_comparisons s) c → Contains (sides_of c.operator) side → v.test c.at side ≡ w.test c.at side

pub code_same : (n : ℕ) (bits other : ℕ → Bool) → ((b : ℕ) → b < n → bits b ≡ other b) → code n bits ≡ code n other
code_same zero bits other same = refl
code_same (suc n) bits other same = λ t. code_same n bits other (λ b lt. same b (omega arith)) t + cond (same n (omega arith) t) (2 ^ n) 0

spelled_same : (labels : List ℕ) (k : Kind) (bits other : ℕ → Bool) (f : Form) → ((b : ℕ) → b < bit_count labels k → bits b ≡ other b)
    → spelled labels k bits f ≡ spelled labels k other f
spelled_same labels kind.Bool bits other f same = ap Truth (same 0 (omega arith))
spelled_same labels kind.Int bits other f same = refl
spelled_same labels (kind.Labels i) bits other f same = ap Name (code_same (bits_for (slice_index_or labels i 0)) bits other same)

spells_same : (labels : List ℕ) (k : Kind) (bits other : ℕ → Bool) (x : Value) → ((b : ℕ) → b < bit_count labels k → bits b ≡ other b)
    → IsSpelled labels k bits x → IsSpelled labels k other x
spells_same labels kind.Bool bits other x same is = is ∙ ap value.Flag (same 0 (omega arith))
spells_same labels kind.Int bits other x same is = tt
spells_same labels (kind.Labels i) bits other x same is = is ∙ ap value.Label (code_same (bits_for (slice_index_or labels i 0)) bits other same)

coded_same : (labels : List ℕ) (k : Kind) (bits other : ℕ → Bool) → ((b : ℕ) → b < bit_count labels k → bits b ≡ other b) → IsCodedAs labels k bits
    → IsCodedAs labels k other
coded_same labels (kind.Labels i) bits other same is = subst (λ c. c < slice_index_or labels i 0)
    (code_same (bits_for (slice_index_or labels i 0)) bits other same) is
coded_same labels _ bits other same is = tt

-- Readings of operators and constants.
module _ (n : ℕ) (p q : Sites → Side → Bool) where
  constant_same : (c : Value) → constant_reading n p c ≡ constant_reading n q c
  constant_same (value.Flag b) = refl
  constant_same (value.Label l) = refl
  constant_same (value.Whole z) = refl

  form_same : (a : Reading) → form_of n p a ≡ form_of n q a
  form_same (Truth b) = refl
  form_same (Name l) = refl
  form_same (Linear f) = refl

  module _ (at : Sites) where
    equal_same : (a b : Reading) → p at AtMost ≡ q at AtMost → p at AtLeast ≡ q at AtLeast → is_same n p at a b ≡ is_same n q at a b
    equal_same (Truth a) (Truth b) most least = refl
    equal_same (Truth a) (Name b) most least = refl
    equal_same (Truth a) (Linear b) most least = refl
    equal_same (Name a) (Truth b) most least = refl
    equal_same (Name a) (Name b) most least = refl
    equal_same (Name a) (Linear b) most least = refl
    equal_same (Linear a) (Truth b) most least = refl
    equal_same (Linear a) (Name b) most least = refl
    equal_same (Linear a) (Linear b) most least = λ t. most t && least t

    control_same : (a b : Reading) → is_linear a ≡ false → is_same n p at a b ≡ is_same n q at a b
    control_same (Truth a) (Truth b) not = refl
    control_same (Truth a) (Name b) not = refl
    control_same (Truth a) (Linear b) not = refl
    control_same (Name a) (Truth b) not = refl
    control_same (Name a) (Name b) not = refl
    control_same (Name a) (Linear b) not = refl
    control_same (Linear a) b not = no_flag (sym not)

    -- an equality, of integers or of control values
    compared_same : (i : Kind) (a b : Reading) → (is_placed at ≡ is_integer i) → (is_integer i ≡ false → is_linear a ≡ false)
        → (is_placed at ≡ true → (side : Side) → Contains (AtMost ∷ AtLeast ∷ []) side → p at side ≡ q at side) → is_same n p at a b ≡ is_same n q at a b
    compared_same i a b placed control tests = by (is_integer i) placed control
      where
        by : (t : Bool) → is_placed at ≡ t → (t ≡ false → is_linear a ≡ false) → is_same n p at a b ≡ is_same n q at a b
        by true there control = equal_same a b (tests there AtMost (0, omega arith, refl)) (tests there AtLeast (1, omega arith, refl))
        by false there control = control_same a b (control refl)

    operated_same : (o : Op) (i j : Kind) (a b : Reading) → IsRule o i j → IsPlaced at o i → (is_integer i ≡ false → is_linear a ≡ false)
        → (is_placed at ≡ true → (side : Side) → Contains (sides_of o) side → p at side ≡ q at side) → operated n p at o a b ≡ operated n q at o a b
    operated_same op.Implies i j a b rule placed control tests = refl
    operated_same op.Or i j a b rule placed control tests = refl
    operated_same op.Xor i j a b rule placed control tests = refl
    operated_same op.And i j a b rule placed control tests = refl
    operated_same op.Equal i j a b rule placed control tests = ap Truth (compared_same i a b (placed (omega arith)) control tests)
    operated_same op.Differs i j a b rule placed control tests = ap (λ t. Truth (not t)) (compared_same i a b (placed (omega arith)) control tests)
    operated_same op.Less i j a b rule placed control tests = ap (λ t. Truth (not t))
        (tests (placed (omega arith) ∙ ap is_integer rule.0) AtLeast (0, omega arith, refl))
    operated_same op.AtMost i j a b rule placed control tests = ap Truth (tests (placed (omega arith) ∙ ap is_integer rule.0) AtMost (0, omega arith, refl))
    operated_same op.Greater i j a b rule placed control tests = ap (λ t. Truth (not t))
        (tests (placed (omega arith) ∙ ap is_integer rule.0) AtMost (0, omega arith, refl))
    operated_same op.AtLeast i j a b rule placed control tests = ap Truth (tests (placed (omega arith) ∙ ap is_integer rule.0) AtLeast (0, omega arith, refl))
    operated_same op.Plus i j a b rule placed control tests = λ t. Linear (form_sum (form_same a t) (form_same b t))
    operated_same op.Minus i j a b rule placed control tests = λ t. Linear (form_difference (form_same a t) (form_same b t))
    operated_same _ i j a b rule placed control tests = absurd rule

module _ (controls : NoControlForms) (s : System) (well : IsWell s) (v w : Valuation) (like : IsLike s v w) (row : List (Option Reading))
    (symbolic : IsSymbolic s v row) where
  abbrev total : ℕ
  total = length s.flows

  abbrev IsCovered : Option ℕ → FlatTree → Type 0
  IsCovered k e = (c : Comparison) → Contains (comparisons s.flows k e) c → Contains (all_comparisons s) c

  on_same : (o : Option Reading) → is_on Reading (reads_at s v) o ≡ is_on Reading (reads_at s w) o
  on_same Nothing = refl
  on_same (Some a) = refl

  held_same : (o : Option Reading) → held Reading (reads_at s v) o ≡ held Reading (reads_at s w) o
  held_same Nothing = refl
  held_same (Some a) = refl

  pub there_same : (k : Option ℕ) → is_there Reading (reads_at s v) row k ≡ is_there Reading (reads_at s w) row k
  there_same Nothing = refl
  there_same (Some k) = on_same (slice_index_or row k Nothing)

  kept_same : (m : ℕ) → m < length s.memories → (found_at s v).kept m ≡ (found_at s w).kept m
  kept_same m lt = spelled_same s.labels (kind_at (memory_kinds s) m) (v.kept (slice_index_or (memory_places s) m []))
      (w.kept (slice_index_or (memory_places s) m []))
      (column_form (width s) (rank (memory_kinds s) m)) (λ b less. like.memories m b lt less)

  given_same : (j : ℕ) → j < length s.inputs → (found_at s v).given j ≡ (found_at s w).given j
  given_same j lt = spelled_same s.labels (kind_at s.inputs j) (v.input j) (w.input j)
      (column_form (width s) (whole_count (memory_kinds s) + rank s.inputs j)) (λ b less. like.inputs j b lt less)

  -- the items of a flat system
  flow_there : (k : ℕ) → k < total → Contains (all_items s) (nth_item s.flows k)
  flow_there k lt = Contains-append_left s.flows (memory_items s ++ s.assertions) (nth_item s.flows k) (Contains-get_or s.flows k no_item lt)

  memory_there : (m : ℕ) → m < length s.memories → Contains (all_items s) (nth_item (memory_items s) m)
  memory_there m lt = Contains-append_right s.flows (memory_items s ++ s.assertions) (nth_item (memory_items s) m)
      (Contains-append_left (memory_items s) s.assertions (nth_item (memory_items s) m) (Contains-get_or (memory_items s) m no_item (rw length-map lt)))

  assertion_there : (k : ℕ) → k < length s.assertions → Contains (all_items s) (nth_item s.assertions k)
  assertion_there k lt = Contains-append_right s.flows (memory_items s ++ s.assertions) (nth_item s.assertions k)
      (Contains-append_right (memory_items s) s.assertions (nth_item s.assertions k) (Contains-get_or s.assertions k no_item lt))

  item_covered : (x : Item) → Contains (all_items s) x → IsCovered x.clock x.body
  item_covered x there c inside = in_flat_map (item_comparisons s.flows) (all_items s) x c there inside

  memory_covered : (m : ℕ) (i : Option ℕ) (e : FlatTree) → m < length s.memories → nth_item (memory_items s) m ≡ record { clock = i; body = e } → IsCovered i e
  memory_covered m i e lt is = subst (λ (x : Item). IsCovered x.clock x.body) is (item_covered (nth_item (memory_items s) m) (memory_there m lt))

  mutual
    pub value_same : (k : Option ℕ) (j : Kind) (e : FlatTree) → Fits s total k j e → IsCovered k e → read s v row e ≡ read s w row e
    value_same k j (Node at form) fit covered = form_value_same k j at form fit covered

    form_value_same : (k : Option ℕ) (j : Kind) (at : Sites) (form : TreeForm) → FormFits s total k j at form
        → ((c : Comparison) → Contains (form_comparisons s.flows k at form) c → Contains (all_comparisons s) c)
        → form_value Reading (reads_at s v) (found_at s v) row at form ≡ form_value Reading (reads_at s w) (found_at s w) row at form
    form_value_same k j at (Constant c) fit covered = constant_same (width s) v.test w.test c
    form_value_same k j at (Flow c) fit covered = held_same (slice_index_or row c Nothing)
    form_value_same k j at (Memory m) fit covered = kept_same m fit.0
    form_value_same k j at (Ticked t) fit covered = ap Truth (like.ticks t fit.0)
    form_value_same k j at (Input i) fit covered = given_same i fit.0
    form_value_same k j at (Not e) fit covered = ap (λ a. Truth (not (holds_true a))) (value_same k kind.Bool e fit.1 covered)
    form_value_same k j at (Binary o a b) fit covered =
        let y : Comparison = record { at = at; clock = k; operator = o; left = a; right = b } in
        let lefts = comparisons s.flows k a in
        let rights = comparisons s.flows k b in
        let left = value_same k fit.0 a fit.3 (λ c u. covered c
        (Contains-append_right (own o y) (lefts ++ rights) c (Contains-append_left lefts rights c u))) in
        let right = value_same k fit.0 b fit.4 (λ c u. covered c
        (Contains-append_right (own o y) (lefts ++ rights) c (Contains-append_right lefts rights c u))) in
        let tests : is_placed at ≡ true → (side : Side) → Contains (sides_of o) side → v.test at side ≡ w.test at side =
        λ placed side u. like.tests y side (covered y (Contains-append_left (own o y) (lefts ++ rights) y (own_there o y side placed u))) u in
        operated_same (width s) v.test w.test at o fit.0 j (read s v row a) (read s v row b) fit.1 fit.2
        (λ not. controls s v row k fit.0 a well symbolic fit.3 not) tests
        ∙ (λ t. operated (width s) w.test at o (left t) (right t))
    form_value_same k j at (Scale z e) fit covered =
        let same = value_same k kind.Int e fit.1 covered in
        (λ t. Linear (form_times z (form_same (width s) v.test w.test (read s v row e) t))) ∙ (λ t. Linear (form_times z (form_of (width s) w.test (same t))))
    form_value_same k j at (If c a b) fit covered =
        let tests = comparisons s.flows k c in
        let lefts = comparisons s.flows k a in
        let rights = comparisons s.flows k b in
        let condition = value_same k kind.Bool c fit.0 (λ d u. covered d (Contains-append_left tests (lefts ++ rights) d u)) in
        let left = value_same k j a fit.1 (λ d u. covered d (Contains-append_right tests (lefts ++ rights) d (Contains-append_left lefts rights d u))) in
        let right = value_same k j b fit.2 (λ d u. covered d (Contains-append_right tests (lefts ++ rights) d (Contains-append_right lefts rights d u))) in
        λ t. cond (holds_true (condition t)) (left t) (right t)
    form_value_same k j at (AtMostOne es) fit covered = ap (λ c. Truth (nat_le c 1)) (trues_same k es fit.1 covered)
    form_value_same k j at (When c e) fit covered = value_same (nth_item s.flows c).clock j e fit.2 covered
    form_value_same k j at (Current m i e) fit covered =
        let same = value_same i j e fit.4 (memory_covered m i e fit.0 fit.2) in
        λ t. cond (there_same i t) (same t) (kept_same m fit.0 t)

    trues_same : (k : Option ℕ) (es : FlatTrees) → AllFit s total k es
        → ((c : Comparison) → Contains (comparisons_of s.flows k es) c → Contains (all_comparisons s) c)
        → trues Reading (reads_at s v) (found_at s v) row es ≡ trues Reading (reads_at s w) (found_at s w) row es
    trues_same k None fit covered = refl
    trues_same k (More e es) fit covered =
        let same = value_same k kind.Bool e fit.0 (λ c u. covered c (Contains-append_left (comparisons s.flows k e) (comparisons_of s.flows k es) c u)) in
        let rest = trues_same k es fit.1 (λ c u. covered c (Contains-append_right (comparisons s.flows k e) (comparisons_of s.flows k es) c u)) in
        λ t. cond (holds_true (same t)) 1 0 + rest t

  item_same : (j : Kind) (x : Item) → ItemFits s total j x → Contains (all_items s) x
      → item_value Reading (reads_at s v) (found_at s v) row x ≡ item_value Reading (reads_at s w) (found_at s w) row x
  item_same j x fit there = let same = value_same x.clock j x.body fit.1 (item_covered x there) in λ t. cond (there_same x.clock t) (Some (same t)) Nothing

  pub flow_fits : (k : ℕ) → k < total → ItemFits s total (kind_at s.kinds k) (nth_item s.flows k)
  flow_fits k lt = wider_item s k total (omega arith) (kind_at s.kinds k) (nth_item s.flows k) (well.flows k lt)

  -- The symbolic instant is one of both.
  pub symbolic_same : IsSymbolic s w row
  symbolic_same = record {
    flows = symbolic.flows;
    holds = λ k lt. symbolic.holds k lt
        ∙ item_same (kind_at s.kinds k) (nth_item s.flows k) (flow_fits k lt) (flow_there k lt);
  }

  item_fits : (x : Item) → Contains (all_items s) x → (j : Kind) × ItemFits s total j x
  item_fits x there = elim (Contains-append_cases s.flows (memory_items s ++ s.assertions) x there) [
    | inl u ↦ (kind_at s.kinds u.0, subst (ItemFits s total (kind_at s.kinds u.0)) (found s.flows x u) (flow_fits u.0 u.1))
    | inr rest ↦ elim (Contains-append_cases (memory_items s) s.assertions x rest) [
      | inl u ↦ (
        kind_at (memory_kinds s) u.0,
        subst (ItemFits s total (kind_at (memory_kinds s) u.0)) (found (memory_items s) x u)
            (well.memories u.0 (let lt = u.1 in let many = length-map s.memories (λ m. m.item) in omega (arith, lt, many))),
      )
      | inr u ↦ (kind.Bool, subst (ItemFits s total kind.Bool) (found s.assertions x u) (well.assertions u.0 u.1))
    ]
  ]
    where
      found : (xs : List Item) (y : Item) (u : Contains xs y) → nth_item xs u.0 ≡ y
      found xs y u = read_in xs y u

  clocks : (j : ℕ) → j < total → IsNamed total (nth_item s.flows j).clock
  clocks j lt = (flow_fits j lt).0

  pub inside_of : (c : Comparison) → Contains (all_comparisons s) c → Inside s (Contains (all_comparisons s)) total c
  inside_of c there =
      let x = of_flat_map (item_comparisons s.flows) (all_items s) c there in
      let fit = item_fits x.0 x.1 in
      inside s (Contains (all_comparisons s)) total clocks x.0.clock fit.0 x.0.body fit.1.0 fit.1.1 (item_covered x.0 x.1) c x.2

  tested_same : (c : Comparison) → Contains (all_comparisons s) c → tested s v row c ≡ tested s w row c
  tested_same c there =
      let at = inside_of c there in
      let left = value_same c.clock at.operand c.left at.left at.left_all in
      let right = value_same c.clock at.operand c.right at.right at.right_all in
      λ t. record { at = c.at; operator = c.operator; there = there_same c.clock t; left = left t; right = right t }

  -- So are its rows.
  row_same : (c : Comparison) (side : Side) (r : Row) → Contains (all_comparisons s) c → IsRowOf (width s) w.test (tested s w row c) side r
      → IsRowOf (width s) v.test (tested s v row c) side r
  row_same c side r there is =
      let same = tested_same c there in
      let present : IsPresent (tested s v row c) side = subst (λ t. IsPresent t side) (sym same) is.0 in
      let truth = like.tests c side there present.side_is in
      let form : tested_form (width s) v.test (tested s v row c) side ≡ tested_form (width s) w.test (tested s w row c) side =
      (λ t. side_form side (form_same (width s) v.test w.test (tested s v row c).left t) (form_same (width s) v.test w.test (tested s v row c).right t))
      ∙ (λ t. tested_form (width s) w.test (same t) side) in
      (present, subst (λ (x : Row). IsTightened x r) (sym (λ t. test_row (truth t) (form t))) is.1)

  pub agrees_same : (x : List ℤ) → Agrees s v row x → Agrees s w row x
  agrees_same x agrees c side r there is = agrees c side r there (row_same c side r there is)

  -- The same state and inputs are spelled, and the same codes are.
  pub spells_as : (now : State) (given : List Value) → Spells s v now given → Spells s w now given
  spells_as now given is = record {
    ticks = λ k lt. is.ticks k lt ∙ like.ticks k lt;
    memories = λ m lt. spells_same s.labels (kind_at (memory_kinds s) m) (v.kept (slice_index_or (memory_places s) m []))
        (w.kept (slice_index_or (memory_places s) m []))
        (slice_index_or now.kept m (value.Flag false)) (λ b less. like.memories m b lt less) (is.memories m lt);
    given = λ j lt. spells_same s.labels (kind_at s.inputs j) (v.input j) (w.input j) (slice_index_or given j (value.Flag false))
        (λ b less. like.inputs j b lt less) (is.given j lt);
  }

  pub coded_as : IsCoded s v → IsCoded s w
  coded_as is = record {
    memories = λ m lt. coded_same s.labels (kind_at (memory_kinds s) m) (v.kept (slice_index_or (memory_places s) m []))
        (w.kept (slice_index_or (memory_places s) m [])) (λ b less. like.memories m b lt less) (is.memories m lt);
    inputs = λ j lt. coded_same s.labels (kind_at s.inputs j) (v.input j) (w.input j) (λ b less. like.inputs j b lt less) (is.inputs j lt);
  }
