-- The states and instants of a run.
use Rattle.std.specs.Prelude.{◌≡◌, ℕ, ◌+◌, ◌<◌, List, length, Option, slice_index_or, Some}
use Rattle.std.specs.List.{Contains}
use Rattle.std.specs.FinMap as map
use Rattle.rv_base.specs.declared.value.Value.{Value}
use Rattle.rv_tree.specs.{Tree.ProgramTree, Places.Identifier, Places.Sites, Places.flows, Delays.Delay, Delays.node_delays}
use Rattle.rv_types.specs.Instances.{Instance, place, clock_in, IsInstance}
use Rattle.rv_types.specs.{declared.typed.Kind.Kind, declared.typed.Clock.TheVariants.Base, Kinds.flow_kind, Values.HasKind}
use Rattle.rv_meaning.specs.Meaning.{Cells, was_there, last_before, kept_place, content}
use Rattle.rv_meaning.specs.{Runs.Instant, Runs.cell, Instants.State, Instants.IsInstant, Instants.IsNext, Instants.IsStart}

-- what the memory of a `pre` or `current` of an instance holds before the instant t of a history
abbrev pub held_before : ProgramTree → (Sites → Value) → Cells → Instance → Delay → ℕ → Value
held_before program starts h i d t = last_before h (clock_in i Base d.operand) (content program starts h i d.operand) (starts (kept_place i d.site d.operand)) t

module _ (program : ProgramTree) (main : Identifier) where
  -- The state that a history brings to the instant t.
  pub record IsStateAt (starts : Sites → Value) (h : Cells) (t : ℕ) (state : State) : Type 0 where
    pub ticks : (k : Option Sites) → state.ticked k ≡ was_there h k t
    pub memories : (i : Instance) (d : Delay) → IsInstance program main i → Contains (node_delays i.node) d
        → state.kept (kept_place i d.site d.operand) ≡ held_before program starts h i d t

  -- Rows from these starts and inputs, one after the other: each is an instant at its state, and each next state is that
  -- after it.
  pub record AreSteps (starts : Sites → Value) (inputs : ℕ → ℕ → Value) (n : ℕ) (states : ℕ → State) (rows : List Instant) : Type 0 where
    pub instants : length rows ≡ n
    pub start : IsStart program main starts (states 0)
    pub instant : (t : ℕ) → t < n → IsInstant program main (states t) (inputs t) (slice_index_or rows t map.empty)
    pub next : (t : ℕ) → t < n → IsNext program main (states t) (slice_index_or rows t map.empty) (states (t + 1))

  -- each flow that is present has a value of its type
  abbrev pub IsTypedInstant : Instant → Type 0
  IsTypedInstant row = (i : Instance) (x : Identifier) (k : Kind) (v : Value) → IsInstance program main i → Contains (flows i.node) x
      → flow_kind program i.node x ≡ Some k
      → cell row (place i x) ≡ Some v → HasKind program k v
