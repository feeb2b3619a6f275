-- What the replay of a trace answers, by the run that the trace has.
use Rattle.std.specs.Prelude.{◌≡◌, ℕ, ◌+◌, ◌<◌, ◌≤◌, ◌⊎◌, ℤ, true, length, Some, Result, Ok, Err}
use Rattle.std.specs.List.{Contains}
use Rattle.rv_base.specs.declared.value.Value.TheVariants.{Flag, Whole}
use Rattle.rv_base.specs.{declared.value.Place.Place, declared.value.Trace.Trace, declared.value.Value.Value}
use Rattle.rv_tree.specs.{Tree.ProgramTree, Places.Identifier, Places.Sites, Delays.Delay, Delays.node_delays}
use Rattle.rv_types.specs.{declared.typed.Clock.TheVariants.Base, Instances.Instance, Instances.IsInstance}
use Rattle.rv_meaning.specs.{Meaning.kept_place, Meaning.value, Runs.History, Runs.cells, Runs.observed, Runs.AssertionsHold, Runs.Falsifies, Runs.IsRun}
use Rattle.rv_flat.specs.{FlatRuns.IsBrokenAt, Steps.IsLeast, Steps.IsWithin}
use Rattle.rv_replay.specs.declared.replayed.Replayed.TheVariants.{Falsified, AssertionFails, NeverFalse}
use Rattle.rv_replay.specs.declared.replayed.ReplayFault.TheVariants.{Outgrown, Memory}
use Rattle.rv_replay.specs.{declared.replayed.Replayed.Replayed, declared.replayed.ReplayFault.ReplayFault, Traces.Fixes}

module _ (program : ProgramTree) (main : Identifier) where
  -- At an instant of a history the flow at a place has an integer outside the range of traces, or the memory of a `pre` or
  -- `current` takes one.
  pub data HasOutgrown (starts : Sites → Value) (h : History) (t : ℕ) (q : Sites) : Type 0 where
    flow : (z : ℤ) → cells h t q ≡ Some (Whole z) → (IsWithin z → ⊥) → HasOutgrown starts h t q
    memory : (i : Instance) (d : Delay) (z : ℤ) → IsInstance program main i → Contains (node_delays i.node) d → kept_place i d.site d.operand ≡ q
        → value program starts (cells h) i Base d.operand t ≡ Some (Whole z) → (IsWithin z → ⊥) → HasOutgrown starts h t q

  abbrev pub StaysWithin : (Sites → Value) → History → ℕ → Type 0
  StaysWithin starts h t = (q : Sites) → HasOutgrown starts h t q → ⊥

  -- An instant that does not end a replay: no value leaves the range, all assertions hold, and the observer is true.
  pub record GoesOn (starts : Sites → Value) (h : History) (t : ℕ) : Type 0 where
    pub within : StaysWithin starts h t
    pub allowed : AssertionsHold program main starts h t
    pub observed : observed program main h t ≡ Some (Flag true)

  module _ (t : Trace) where
    -- The run of the first n instants of the trace, and that none of the first k ends the replay.
    pub record Plays (n k : ℕ) : Type 0 where
      pub starts : Sites → Value
      pub inputs : ℕ → ℕ → Value
      pub fixed : Fixes program main t n starts inputs
      pub history : History
      pub run : IsRun program main starts inputs n history
      pub goes_on : (s : ℕ) → s < k → GoesOn starts history s

    -- The trace, cut after the instant k, falsifies, and no value leaves the range up to there.
    pub record IsFalsifiedAt (k : ℕ) : Type 0 where
      pub starts : Sites → Value
      pub inputs : ℕ → ℕ → Value
      pub fixed : Fixes program main t (k + 1) starts inputs
      pub falsifies : Falsifies program main starts inputs k
      pub within : (s : ℕ) → s ≤ k → StaysWithin starts falsifies.0 s

    -- The instant k is the first that ends the replay; there no value leaves the range, and this is the least place of an
    -- assertion that is false.
    pub record FailsAt (k : ℕ) (p : Place) : Type 0 where
      pub plays : Plays (k + 1) k
      pub within : StaysWithin plays.starts plays.history k
      pub least : IsLeast (IsBrokenAt program main plays.starts plays.history k) p.sites

    -- It is the first that ends the replay, and this is the least place at which a value leaves the range there.
    pub record OutgrowsAt (k : ℕ) (p : Place) : Type 0 where
      pub plays : Plays (k + 1) k
      pub least : IsLeast (HasOutgrown plays.starts plays.history k) p.sites

    -- No instant of the trace ends the replay.
    abbrev pub NeverEnds : Type 0
    NeverEnds = Plays (length t.instants) (length t.instants)

    -- What an answer says. Want of memory is none.
    abbrev pub IsReplay : Result Replayed ReplayFault → Type 0
    IsReplay (Ok (Falsified k)) = IsFalsifiedAt k
    IsReplay (Ok (AssertionFails k p)) = FailsAt k p
    IsReplay (Ok NeverFalse) = NeverEnds
    IsReplay (Err (Outgrown k p)) = OutgrowsAt k p
    IsReplay (Err Memory) = ⊥

-- It is this answer, unless memory ran out.
abbrev pub IsUnlessMemory : Result Replayed ReplayFault → Result Replayed ReplayFault → Type 0
IsUnlessMemory expected result = (result ≡ expected) ⊎ (result ≡ Err Memory)
