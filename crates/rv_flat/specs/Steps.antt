-- The states of a flat system in whole numbers within the range of traces, and where one leaves it.
use Rattle.std.specs.Prelude.{◌≡◌, ℕ, ◌<◌, ◌^◌, ℤ, pos, ◌-ℤ◌, ◌≤ℤ◌, ◌<ℤ◌, true, false, List, [], map, length, Option, Some, IsTrue, slice_get, slice_index_or}
use Rattle.std.specs.Prelude.{None as Nothing}
use Rattle.rv_base.specs.declared.value.Value.TheVariants.{Flag, Label, Whole}
use Rattle.rv_base.specs.{declared.value.Place.Place, declared.value.Value.Value}
use Rattle.rv_tree.specs.Places.{Sites}
use Rattle.rv_types.specs.{declared.typed.Kind.Kind, Needs.IsBefore}
use Rattle.rv_flat.specs.FlatInstants.{Row, nth, is_on_at, nth_item, memory_items, places, memory_places, tick_clocks, value_at}
use Rattle.rv_flat.specs.{declared.flat.Flat.Flat, declared.state.State.State}
use Rattle.rv_agreement.specs.Checks.{constant_fits}

-- the integers from -2^63 to 2^63 - 1
abbrev pub IsWithin : ℤ → Type 0
IsWithin z = ((pos 0 -ℤ pos (2 ^ 63)) ≤ℤ z) × (z <ℤ pos (2 ^ 63))

abbrev pub IsInRange : Value → Type 0
IsInRange (Flag b) = Unit {0}
IsInRange (Label l) = Unit {0}
IsInRange (Whole z) = IsWithin z

-- how many labels each enumeration has
abbrev pub label_counts : Flat → List ℕ
label_counts f = map (λ ls. length ls) f.labels

-- One value of each of these types, within the range.
pub record AreValues (f : Flat) (kinds : List Kind) (values : List Value) : Type 0 where
  pub size : length values ≡ length kinds
  pub typed : (k : ℕ) (j : Kind) → k < length kinds → slice_get kinds k ≡ Some j
      → IsTrue (constant_fits (label_counts f) j (slice_index_or values k (Flag false)))
  pub within : (k : ℕ) → k < length values → IsInRange (slice_index_or values k (Flag false))

abbrev pub memory_kinds : Flat → List Kind
memory_kinds f = map (λ m. m.kind) f.memories

abbrev pub input_kinds : Flat → List Kind
input_kinds f = map (λ i. i.kind) f.inputs

abbrev pub flow_kinds : Flat → List Kind
flow_kinds f = map (λ g. g.kind) f.flows

-- A state: each tick is one of the system's, and each memory holds a value of its type within the range.
pub record IsState (f : Flat) (now : State) : Type 0 where
  pub ticks : length now.ticked ≡ length (tick_clocks f)
  pub kept : AreValues f (memory_kinds f) now.kept

-- The state at the start: no clock has ticked, and the memories hold these.
pub record IsFlatStart (f : Flat) (starts : List Value) (state : State) : Type 0 where
  pub ticks : length state.ticked ≡ length (tick_clocks f)
  pub none : (k : ℕ) → slice_index_or state.ticked k false ≡ false
  pub kept : state.kept ≡ starts

-- At a row, the integer of the flow or memory at this place leaves the range.
pub data IsGrown (f : Flat) (now : State) (inputs : List Value) (row : Row) (q : Sites) : Type 0 where
  flow : (k : ℕ) (z : ℤ) → k < length f.flows → nth row k ≡ Some (Whole z) → (IsWithin z → ⊥) → slice_index_or (places f) k [] ≡ q → IsGrown f now inputs row q
  memory : (m : ℕ) (z : ℤ) → m < length f.memories → is_on_at row (nth_item (memory_items f) m).clock ≡ true
      → value_at now inputs row (nth_item (memory_items f) m).body ≡ Whole z
      → (IsWithin z → ⊥) → slice_index_or (memory_places f) m [] ≡ q → IsGrown f now inputs row q

-- Each memory whose clock is there takes a value of its type.
abbrev pub AreTaken : Flat → State → List Value → Row → Type 0
AreTaken f now inputs row = (m : ℕ) (j : Kind) → m < length f.memories → slice_get (memory_kinds f) m ≡ Some j
    → is_on_at row (nth_item (memory_items f) m).clock ≡ true
    → IsTrue (constant_fits (label_counts f) j (value_at now inputs row (nth_item (memory_items f) m).body))

-- the least of some places
abbrev pub IsLeast : (Sites → Type 0) → Sites → Type 0
IsLeast Is q = Is q × ((other : Sites) → Is other → IsBefore other q → ⊥)

-- no place, or the least
abbrev pub IsLeastOf : (Sites → Type 0) → Option Place → Type 0
IsLeastOf Is Nothing = (q : Sites) → Is q → ⊥
IsLeastOf Is (Some p) = IsLeast Is p.sites
