-- The replay of a trace over a flat system, instant by instant.
use Rattle.std.specs.Prelude.{◌≡◌, ℕ, ◌+◌, true, false, List, [], ◌∷◌, Some, Result, Ok, Err}
use Rattle.rv_base.specs.{declared.value.Place.Place, declared.value.Trace.Trace, declared.value.Value.Value, declared.value.Value.TheVariants.Flag}
use Rattle.rv_tree.specs.Places.{Sites}
use Rattle.rv_flat.specs.{declared.flat.Flat.Flat, declared.state.State.State, FlatInstants.Row, FlatInstants.nth, FlatInstants.IsFlatInstant}
use Rattle.rv_flat.specs.{FlatInstants.IsFlatNext, FlatOf.IsFlatBroken, Steps.IsFlatStart, Steps.IsGrown, Steps.IsLeast, Steps.IsState}
use Rattle.rv_replay.specs.declared.playing.Turn.TheVariants.{Ends, GoesOn}
use Rattle.rv_replay.specs.declared.replayed.Replayed.TheVariants.{Falsified, AssertionFails, NeverFalse}
use Rattle.rv_replay.specs.declared.replayed.ReplayFault.TheVariants.{Outgrown, Memory}
use Rattle.rv_replay.specs.{declared.playing.Turn.Turn, declared.replayed.Replayed.Replayed, declared.replayed.ReplayFault.ReplayFault}

module _ (f : Flat) where
  -- The instant with this number, from this state and inputs, ends a replay with this answer.
  pub data IsEnd (k : ℕ) (now : State) (inputs : List Value) : Result Replayed ReplayFault → Type 0 where
    outgrown : (row : Row) (p : Place) → IsFlatInstant f now inputs row → IsLeast (IsGrown f now inputs row) p.sites
        → IsEnd k now inputs (Err (Outgrown k p))
    fails : (row : Row) (p : Place) → IsFlatInstant f now inputs row → ((q : Sites) → IsGrown f now inputs row q → ⊥)
        → IsLeast (IsFlatBroken f now inputs row) p.sites → IsEnd k now inputs (Ok (AssertionFails k p))
    falsified : (row : Row) → IsFlatInstant f now inputs row → ((q : Sites) → IsGrown f now inputs row q → ⊥)
        → ((q : Sites) → IsFlatBroken f now inputs row q → ⊥) → nth row f.observer ≡ Some (Flag false) → IsEnd k now inputs (Ok (Falsified k))

  -- It does not end it, and this is the state after it.
  pub record IsPassed (now : State) (inputs : List Value) (after : State) : Type 0 where
    pub row : Row
    pub instant : IsFlatInstant f now inputs row
    pub within : (q : Sites) → IsGrown f now inputs row q → ⊥
    pub allowed : (q : Sites) → IsFlatBroken f now inputs row q → ⊥
    pub observed : nth row f.observer ≡ Some (Flag true)
    pub next : IsFlatNext f now inputs row after

  -- The instants from one with this number on, at this state, give this answer.
  pub data IsPlayed : ℕ → State → List (List Value) → Result Replayed ReplayFault → Type 0 where
    never : (k : ℕ) (now : State) → IsPlayed k now [] (Ok NeverFalse)
    ends : (k : ℕ) (now : State) (x : List Value) (xs : List (List Value)) (a : Result Replayed ReplayFault) → IsEnd k now x a
        → IsPlayed k now (x ∷ xs) a
    goes_on : (k : ℕ) (now next : State) (x : List Value) (xs : List (List Value)) (a : Result Replayed ReplayFault)
        → IsPassed now x next → IsPlayed (k + 1) next xs a → IsPlayed k now (x ∷ xs) a

  -- what a turn comes to
  abbrev pub IsTurn : ℕ → State → List Value → Turn → Type 0
  IsTurn k now inputs (Ends a) = IsEnd k now inputs (Ok a)
  IsTurn k now inputs (GoesOn next) = IsPassed now inputs next × IsState f next

  -- The trace gives this answer.
  pub record IsPlayedOf (t : Trace) (a : Result Replayed ReplayFault) : Type 0 where
    pub first : State
    pub start : IsFlatStart f t.starts first
    pub played : IsPlayed 0 first t.instants a

-- the cause of a fault at an instant; want of memory needs none
abbrev pub IsEndFault : Flat → ℕ → State → List Value → ReplayFault → Type 0
IsEndFault f k now inputs (Outgrown j p) = IsEnd f k now inputs (Err (Outgrown j p))
IsEndFault f k now inputs Memory = Unit {0}

-- what a replay answers, want of memory left out
abbrev pub AnswersUnlessMemory : (Result Replayed ReplayFault → Type 0) → Result Replayed ReplayFault → Type 0
AnswersUnlessMemory Is (Ok a) = Is (Ok a)
AnswersUnlessMemory Is (Err (Outgrown k p)) = Is (Err (Outgrown k p))
AnswersUnlessMemory Is (Err Memory) = Unit {0}
