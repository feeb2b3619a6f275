-- Traces that falsify a program.
use Rattle.std.specs.Prelude.{◌≡◌, ℕ, ◌+◌, ◌≤◌, length}
use Rattle.rv_base.specs.{declared.value.Value.Value, declared.value.Trace.Trace}
use Rattle.rv_tree.specs.{Tree.ProgramTree, Places.Identifier, Places.Sites}
use Rattle.rv_meaning.specs.Runs.{Falsifies}
use Rattle.rv_replay.specs.{Replays.IsFalsifiedAt, Traces.IsTrace}

module _ (program : ProgramTree) (main : Identifier) where
  -- A trace whose replay ends at its last instant, as falsified.
  pub record IsFalsifying (t : Trace) : Type 0 where
    pub trace : IsTrace program main t
    pub last : ℕ
    pub count : length t.instants ≡ last + 1
    pub falsified : IsFalsifiedAt program main t last

  -- No run falsifies.
  abbrev pub IsNeverFalsified : Type 0
  IsNeverFalsified = (starts : Sites → Value) (inputs : ℕ → ℕ → Value) (n : ℕ) → Falsifies program main starts inputs n → ⊥

  -- No run with fewer instants than the trace falsifies.
  abbrev pub IsShortest : Trace → Type 0
  IsShortest t = (starts : Sites → Value) (inputs : ℕ → ℕ → Value) (n : ℕ) → Falsifies program main starts inputs n → length t.instants ≤ n + 1
