-- Runs at whose last instant the observer is false.
use Rattle.std.specs.Prelude.{◌≡◌, ℕ, ◌+◌, ◌≤◌, false, List, ℤ, Some, slice_get}
use Rattle.rv_diagram.specs.{Nodes.Valuation, declared.frozen.Frozen.Frozen}
use Rattle.rv_proofs.specs.{Systems.System, Scopes.IsIn, Runs.IsAbstractRun, Runs.AreAllowedBefore}

-- A run of t + 1 instants at each of which the assertions hold, and at the last of which the observer is false.
pub record IsFalsifyingRun (s : System) (t : ℕ) (vs : ℕ → Valuation) (points : ℕ → List ℤ) : Type 0 where
  pub run : IsAbstractRun s (t + 1) vs points
  pub allowed : AreAllowedBefore s (t + 1) vs
  pub fails : s.observer (vs t) ≡ false

-- The control state of instant u is in set u.
abbrev pub GoesThrough : List Frozen → ℕ → (ℕ → Valuation) → Type 0
GoesThrough sets t vs = (u : ℕ) (set : Frozen) → u ≤ t → slice_get sets u ≡ Some set → IsIn set (vs u)
