-- What one instant gives, flow by flow, memory by memory and tick by tick.
use Rattle.std.specs.Prelude.{◌≡◌, ℕ, ◌+◌, ◌<◌, Bool, false, not, ◌||◌, cond, List, [], ◌∷◌, length, Option, Some, slice_index_or, None as Nothing}
use Rattle.rv_base.specs.{declared.value.Value.Value, declared.value.Value.TheVariants.Flag}
use Rattle.rv_meaning.specs.Meaning.{is_true}
use Rattle.rv_agreement.specs.Evaluation.{Found, value, integers}
use Rattle.rv_flat.specs.FlatInstants.{Row, nth, is_on_at, nth_item, flow_items, memory_items, assertion_trees, value_at}
use Rattle.rv_flat.specs.{declared.flat.Flat.Flat, declared.state.State.State, declared.parts.FlatMemory.FlatMemory, Inlined.table_of, Tame.IsOver}
use Rattle.rv_flat.specs.{FlatOf.no_assertion}

-- The row of the first flows, as many as are said: each has what its expression has where its clock is there, and is absent
-- elsewhere.
pub record IsFilled (f : Flat) (now : State) (inputs : List Value) (n : ℕ) (row : Row) : Type 0 where
  pub flows : length row ≡ n
  pub holds : (k : ℕ) → k < n
      → nth row k ≡ cond (is_on_at row (nth_item (flow_items f) k).clock) (Some (value_at now inputs row (nth_item (flow_items f) k).body)) Nothing

-- What the first memories, as many as are said, hold after an instant.
pub record IsKept (f : Flat) (now : State) (inputs : List Value) (row : Row) (n : ℕ) (kept : List Value) : Type 0 where
  pub memories : length kept ≡ n
  pub holds : (m : ℕ) → m < n
      → slice_index_or kept m (Flag false)
      ≡ cond (is_on_at row (nth_item (memory_items f) m).clock) (value_at now inputs row (nth_item (memory_items f) m).body)
      (slice_index_or now.kept m (Flag false))

-- which of these ticks, numbered from a number on, have been there after an instant
abbrev pub ticks_from : Row → List Bool → ℕ → List (Option ℕ) → List Bool
ticks_from row ticked k [] = []
ticks_from row ticked k (c ∷ cs) = (slice_index_or ticked k false || is_on_at row c) ∷ ticks_from row ticked (k + 1) cs

-- whether the assertion with a number is false
abbrev pub is_broken : Flat → State → List Value → Row → ℕ → Bool
is_broken f now inputs row k = not (is_true (value_at now inputs row (slice_index_or (assertion_trees f) k no_assertion)))

-- What the memories take that have been asked for at an instant, by their numbers: each is over the first flows, and has its value.
pub record AreShown (memories : List FlatMemory) (found : Found Value) (row : Row) (shown : List (Option Value)) : Type 0 where
  pub many : length shown ≡ length memories
  pub each : (m : ℕ) (v : Value) → slice_index_or shown m Nothing ≡ Some v
      → IsOver (length row) (table_of memories m).body × (v ≡ value Value integers found row (table_of memories m).body)
