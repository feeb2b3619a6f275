-- A flat system as a system of valuations: what certificates speak of. (Jeannet 2003 for the control state.)
use Rattle.std.specs.Prelude.{ℕ, suc, ◌+◌, ◌-◌, pos, Bool, true, false, not, ◌&&◌, ◌||◌, cond, nat_eq, nat_lt, List, [], ◌∷◌, length, Option, Some}
use Rattle.std.specs.Prelude.{slice_index_or, None as Nothing}
use Rattle.std.specs.Int.{bit_at}
use Rattle.rv_tree.specs.Places.{Sites, index_of}
use Rattle.rv_types.specs.Lists.{Side, sides_of, Variable, MainTick, Tick, Kept, Next, Input, Test}
use Rattle.rv_types.specs.{declared.typed.Kind.Kind, Variables.bits_for}
use Rattle.rv_types.specs.declared.typed.Kind.TheVariants as kind
use Rattle.rv_meaning.specs.Codes.{code}
use Rattle.rv_rows.specs.{declared.linear.Row.Row, Arithmetic.constant_form, Arithmetic.test_row}
use Rattle.rv_agreement.specs.Trees.{Item, Kept as KeptMemory, System, memory_kinds, memory_places}
use Rattle.rv_agreement.specs.Valuations.{Valuation, Reading, Truth, Name, Linear, whole_count, width, reads_at, found_at, Comparison, all_comparisons}
use Rattle.rv_agreement.specs.Valuations.{is_of_integers, Tested, tested_form, tested, updated, next_tick, observed}
use Rattle.rv_agreement.specs.{Evaluation.is_met, Evaluation.is_on, Checks.same_flow, Checks.same_sites, Agreement.updates}
use Rattle.rv_proofs.specs.Systems as proofs
use Rattle.rv_flat.specs.{declared.flat.Flat.Flat, FlatInstants.system_of}
use Rattle.rv_control.specs.{Tightening.tightened, Named.same_side, Named.variables_of, Named.by_names, Symbolic.symbolic}

-- Counts of variables.

-- each state bit is followed by its next copy
unfoldable pub state_bits : List Variable → ℕ
state_bits [] = 0
state_bits (Next ∷ xs) = suc (state_bits xs)
state_bits (_ ∷ xs) = state_bits xs

unfoldable pub order_tests : List Variable → ℕ
order_tests [] = 0
order_tests (Test p side ∷ xs) = suc (order_tests xs)
order_tests (_ ∷ xs) = order_tests xs

-- Codes.

-- the code names a label
abbrev pub names_label : List ℕ → Kind → (ℕ → Bool) → Bool
names_label labels kind.Bool bits = true
names_label labels kind.Int bits = true
names_label labels (kind.Labels i) bits = nat_lt (code (bits_for (slice_index_or labels i 0)) bits) (slice_index_or labels i 0)

module _ (labels : List ℕ) (w : Valuation) where
  -- the code of each memory names a label
  unfoldable pub memories_named : List KeptMemory → Bool
  memories_named [] = true
  memories_named (m ∷ ms) = names_label labels m.kind (w.kept m.place) && memories_named ms

  -- and of each input, from a number on
  unfoldable pub inputs_named : ℕ → List Kind → Bool
  inputs_named j [] = true
  inputs_named j (k ∷ ks) = names_label labels k (w.input j) && inputs_named (suc j) ks

-- no tick bit is true
unfoldable pub none_ticked : Valuation → List (Option Sites) → Bool
none_ticked w [] = true
none_ticked w (t ∷ ts) = not (w.ticked t) && none_ticked w ts

-- The control state is initial: no tick bit is true, and the code of each memory names a label.
unfoldable pub is_initial : System → Valuation → Bool
is_initial s w = none_ticked w s.ticks && memories_named s.labels w s.memories

-- the number of a tick by the place of its clock's flow
unfoldable pub tick_index : List (Option Sites) → Option Sites → ℕ
tick_index [] t = 0
tick_index (u ∷ us) t = cond (same_flow u t) 0 (suc (tick_index us t))

-- a bit of a control value
abbrev pub bit_of : Reading → ℕ → Bool
bit_of (Truth t) b = t
bit_of (Name l) b = nat_eq (bit_at l b) 1
bit_of (Linear f) b = false

abbrev pub has_side : List Side → Side → Bool
has_side [] side = false
has_side (a ∷ rest) side = same_side a side || has_side rest side

-- the comparison is of integers, its clock is there, and the test is one of its tests
abbrev pub is_present : Tested → Side → Bool
is_present t side = t.there && (is_of_integers t.operator t.left t.right && has_side (sides_of t.operator) side)

module _ (s : System) (w : Valuation) (row : List (Option Reading)) where
  -- each assertion is true or absent
  unfoldable pub all_met : List Item → Bool
  all_met [] = true
  all_met (x ∷ xs) = is_met Reading (reads_at s w) (found_at s w) row x && all_met xs

  -- The valuation is allowed: every code names a label, and each assertion is true or absent.
  unfoldable pub is_allowed : Bool
  is_allowed = (memories_named s.labels w s.memories && inputs_named s.labels w 0 s.inputs) && all_met s.assertions

  -- The tightened row of a test at a place, of the comparison there that is present.
  unfoldable pub row_among : List Comparison → Sites → Side → Option Row
  row_among [] at side = Nothing
  row_among (c ∷ cs) at side = cond (same_sites c.at at && is_present (tested s w row c) side)
      (Some (tightened (test_row (w.test c.at side) (tested_form (width s) w.test (tested s w row c) side))))
      (row_among cs at side)

  -- the row of a variable that is a test
  abbrev pub row_of : Variable → Option Row
  row_of (Test at side) = row_among (all_comparisons s) at side
  row_of _ = Nothing

  -- What a state bit has after the instant: a clock has ticked where it had or is there, and a bit of a memory is that of what
  -- the memory has then. Other variables are false.
  abbrev pub next_truth : Variable → Bool
  next_truth MainTick = next_tick s w row (tick_index s.ticks Nothing)
  next_truth (Tick p) = next_tick s w row (tick_index s.ticks (Some p))
  next_truth (Kept p b) = bit_of (updated s w row (index_of (memory_places s) p)) b
  next_truth Next = false
  next_truth (Input j b) = false
  next_truth (Test p side) = false

-- The system of valuations of a flat system whose variables stand in this order: at each valuation by numbers, what the symbolic
-- instant of the same valuation by names says.
abbrev pub control_over : System → List Variable → proofs.System
control_over s names = record {
  states = state_bits names;
  variables = length names;
  memories = whole_count (memory_kinds s);
  columns = width s;
  tests = order_tests names;
  initial = λ v. is_initial s (by_names names v);
  allowed = λ v. is_allowed s (by_names names v) (symbolic s (by_names names v));
  row = λ v j. row_of s (by_names names v) (symbolic s (by_names names v)) (slice_index_or names (length names - order_tests names + j) Next);
  update = λ v k. slice_index_or (updates s (by_names names v) (symbolic s (by_names names v))) k (constant_form (width s) (pos 0));
  observer = λ v. is_on Reading (reads_at s (by_names names v)) (observed s (by_names names v) (symbolic s (by_names names v)));
  next = λ v x. next_truth s (by_names names v) (symbolic s (by_names names v)) (slice_index_or names x Next);
}

-- The system of valuations of a flat system.
abbrev pub control_of : Flat → proofs.System
control_of f = control_over (system_of f) (variables_of f)
