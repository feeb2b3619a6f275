-- Runs of a program and of its flat system, in whole numbers of any size.
use Rattle.std.specs.{Prelude.◌≡◌, Prelude.ℕ, Prelude.◌<◌, Prelude.◌≤◌, Prelude.◌↔◌, Prelude.List, Prelude.map, Prelude.slice_index_or, FinMap.empty}
use Rattle.rv_base.specs.declared.value.Value.{Value}
use Rattle.rv_tree.specs.{Tree.ProgramTree, Places.Identifier, Places.Sites}
use Rattle.rv_meaning.specs.{Runs.History, Runs.AssertionsHold, Runs.IsRun, Runs.cells, Runs.observed, Instants.State as Brought, Following.IsStateAt}
use Rattle.rv_agreement.specs.{Agreement.State, FlatRuns.IsFlatRun, FlatRuns.AreMetIn}
use Rattle.rv_flat.specs.FlatInstants.{Row, nth, places, memory_places, system_of}
use Rattle.rv_flat.specs.{declared.flat.Flat.Flat, FlatOf.flat_state, FlatOf.flat_inputs, FlatOf.row_of}

-- what a state of the program is to the system
abbrev pub system_state : Flat → Brought → State
system_state f state = record { ticked = (flat_state f state).ticked; kept = (flat_state f state).kept }

-- The run of the flat system that a run of the program is: each state is the one that the run brings there, each row that of the
-- run, flow by flow; the assertions hold in both or in neither, and the observer has the same.
pub record IsRunOf (program : ProgramTree) (main : Identifier) (f : Flat) (starts : Sites → Value) (inputs : ℕ → ℕ → Value) (n : ℕ) (h : History)
    (states : ℕ → State) (rows : ℕ → Row) : Type 0 where
  pub run : IsFlatRun (system_of f) n states (λ t. flat_inputs f (inputs t)) rows
  pub kept_at_first : (states 0).kept ≡ map starts (memory_places f)
  pub brought : (t : ℕ) → t ≤ n → (state : Brought) × IsStateAt program main starts (cells h) t state × (states t ≡ system_state f state)
  pub told : (t : ℕ) → t < n → rows t ≡ row_of (places f) (slice_index_or h t empty)
  pub assertions : (t : ℕ) → t < n → AssertionsHold program main starts h t ↔ AreMetIn (system_of f) (states t) (flat_inputs f (inputs t)) (rows t)
  pub observer : (t : ℕ) → t < n → nth (rows t) f.observer ≡ observed program main h t

-- The run of the program that a run of its flat system is: it has these rows, flow by flow, from the same starts and inputs.
pub record HasRun (program : ProgramTree) (main : Identifier) (f : Flat) (n : ℕ) (states : ℕ → State) (inputs : ℕ → List Value) (rows : ℕ → Row) : Type 0 where
  pub start_values : Sites → Value
  pub given : ℕ → ℕ → Value
  pub history : History
  pub run : IsRun program main start_values given n history
  pub kept_at_first : (states 0).kept ≡ map start_values (memory_places f)
  pub taken : (t : ℕ) → t < n → inputs t ≡ flat_inputs f (given t)
  pub told : (t : ℕ) → t < n → rows t ≡ row_of (places f) (slice_index_or history t empty)
