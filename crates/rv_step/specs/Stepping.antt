-- What a step of a flat system answers.
use Rattle.std.specs.Prelude.{◌≡◌, List}
use Rattle.rv_base.specs.declared.value.Value.{Value}
use Rattle.rv_tree.specs.Places.{Sites}
use Rattle.rv_flat.specs.FlatInstants.{Row, nth, is_on, IsFlatInstant, IsFlatNext}
use Rattle.rv_flat.specs.Steps.{IsGrown, IsLeast, IsLeastOf, IsState}
use Rattle.rv_flat.specs.{declared.flat.Flat.Flat, declared.state.State.State, FlatOf.IsFlatBroken}
use Rattle.rv_step.specs.declared.stepped.StepFault.TheVariants.{Outgrown, Memory}
use Rattle.rv_step.specs.{declared.stepped.Stepped.Stepped, declared.stepped.StepFault.StepFault}

-- An instant: what the flows have, the state after it, which is one again, the observer, the least place of an assertion that
-- is false; no integer leaves the range.
pub record IsStepped (f : Flat) (now : State) (inputs : List Value) (s : Stepped) : Type 0 where
  pub instant : IsFlatInstant f now inputs s.values
  pub next : IsFlatNext f now inputs s.values s.next
  pub observer : s.observer ≡ is_on (nth s.values f.observer)
  pub broken : IsLeastOf (IsFlatBroken f now inputs s.values) s.broken
  pub within : (q : Sites) → IsGrown f now inputs s.values q → ⊥
  pub state : IsState f s.next

-- The fault of an instant: the least place at which an integer leaves the range. Want of memory needs no cause.
abbrev pub IsStepFault : Flat → State → List Value → StepFault → Type 0
IsStepFault f now inputs (Outgrown p) = (row : Row) × IsFlatInstant f now inputs row × IsLeast (IsGrown f now inputs row) p.sites
IsStepFault f now inputs Memory = Unit {0}
