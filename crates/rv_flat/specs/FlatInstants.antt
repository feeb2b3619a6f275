-- One instant of a flat system: what its flows have, from the state before it and the inputs, and the state after it.
use Rattle.std.specs.Prelude.{◌≡◌, ℕ, ◌<◌, Bool, false, ◌||◌, cond, List, map, length, Option, Some, slice_index_or, None as Nothing}
use Rattle.rv_base.specs.{declared.value.Value.Value, declared.value.Value.TheVariants.Flag}
use Rattle.rv_tree.specs.Places.{Sites}
use Rattle.rv_agreement.specs.{Evaluation.Found, Evaluation.value, Evaluation.integers, Trees.FlatTree, Trees.Item, Trees.System}
use Rattle.rv_agreement.specs.Evaluation as evaluation
use Rattle.rv_agreement.specs.Trees as trees
use Rattle.rv_flat.specs.Systems.{system_from, flow_item, memory_item, places_of, memory_places_of, tick_clocks_of}
use Rattle.rv_flat.specs.{declared.flat.Flat.Flat, declared.state.State.State, Inlined.tree_among}

-- the system of a flat system: its parts by what an instant asks of them
abbrev pub system_of : Flat → System
system_of f = system_from f.flows f.memories f.inputs f.assertions f.variables f.labels f.observer

-- what the flows have, in their order, none where one is absent
abbrev pub Row : Type 0
Row = List (Option Value)

abbrev pub nth : Row → ℕ → Option Value
nth row k = slice_index_or row k Nothing

-- what a flow has, of no meaning where it is absent, and whether it is there and true
abbrev pub held : Option Value → Value
held = evaluation.held Value integers

abbrev pub is_on : Option Value → Bool
is_on = evaluation.is_on Value integers

-- whether the flow of a clock is there and true; the main node's base clock always is
abbrev pub is_on_at : Row → Option ℕ → Bool
is_on_at row k = evaluation.is_there Value integers row k

-- what an instant finds at a state, with these inputs
abbrev pub found_at : State → List Value → Found Value
found_at now inputs = record {
  ticked = λ k. slice_index_or now.ticked k false;
  kept = λ m. slice_index_or now.kept m (Flag false);
  given = λ j. slice_index_or inputs j (Flag false);
}

-- what an expression has at a state
abbrev pub value_at : State → List Value → Row → FlatTree → Value
value_at now inputs row e = value Value integers (found_at now inputs) row e

abbrev pub flow_items : Flat → List Item
flow_items f = map (flow_item f.memories) f.flows

abbrev pub memory_items : Flat → List Item
memory_items f = map (memory_item f.memories) f.memories

-- the whole expressions of the assertions
abbrev pub assertion_trees : Flat → List FlatTree
assertion_trees f = map (tree_among f.memories) f.assertions

abbrev pub nth_item : List Item → ℕ → Item
nth_item items k = trees.nth_item items k

-- the places of the flows, and of the memories, in their order
abbrev pub places : Flat → List Sites
places f = places_of f.flows

abbrev pub memory_places : Flat → List Sites
memory_places f = memory_places_of f.memories

-- the numbers of the flows of the ticks, in order; the main tick has none
abbrev pub tick_clocks : Flat → List (Option ℕ)
tick_clocks f = tick_clocks_of f.flows f.variables

-- An instant of a flat system: each flow has what its expression has where its clock is there, and is absent elsewhere.
pub record IsFlatInstant (f : Flat) (now : State) (inputs : List Value) (row : Row) : Type 0 where
  pub flows : length row ≡ length f.flows
  pub holds : (k : ℕ) → k < length f.flows
      → nth row k ≡ cond (is_on_at row (nth_item (flow_items f) k).clock) (Some (value_at now inputs row (nth_item (flow_items f) k).body)) Nothing

-- The state after it: a clock has ticked where it had or is there, and each memory takes what its expression has where its
-- clock is there, and keeps its value elsewhere.
pub record IsFlatNext (f : Flat) (now : State) (inputs : List Value) (row : Row) (next : State) : Type 0 where
  pub ticks : length next.ticked ≡ length (tick_clocks f)
  pub ticked : (k : ℕ) → k < length (tick_clocks f)
      → slice_index_or next.ticked k false ≡ (slice_index_or now.ticked k false || is_on_at row (slice_index_or (tick_clocks f) k Nothing))
  pub memories : length next.kept ≡ length f.memories
  pub kept : (m : ℕ) → m < length f.memories
      → slice_index_or next.kept m (Flag false)
      ≡ cond (is_on_at row (nth_item (memory_items f) m).clock) (value_at now inputs row (nth_item (memory_items f) m).body)
      (slice_index_or now.kept m (Flag false))
