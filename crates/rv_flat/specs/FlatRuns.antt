-- Steps of a flat system, and the run of its program that they are.
use Rattle.std.specs.Prelude.{◌≡◌, ℕ, ◌+◌, ◌<◌, false, [], ◌∷◌, ◌++◌, map, Some}
use Rattle.std.specs.List.{Contains}
use Rattle.rv_base.specs.declared.value.Value.{Value}
use Rattle.rv_tree.specs.{Tree.AssertionTree, Tree.ProgramTree, Places.Identifier, Places.Sites}
use Rattle.rv_types.specs.{declared.typed.Clock.TheVariants.Base, Instances.Instance, Instances.IsInstance, Instances.IsNode, WellFormed.AreWell}
use Rattle.rv_meaning.specs.{Meaning.is_true, Meaning.value, Runs.History, Runs.cells, Runs.IsRun}
use Rattle.rv_flat.specs.FlatInstants.{Row, memory_places, IsFlatInstant, IsFlatNext}
use Rattle.rv_flat.specs.{declared.flat.Flat.Flat, declared.state.State.State, FlatOf.IsFlatOf, FlatOf.flat_inputs, Steps.IsFlatStart}

-- A run of a well formed program, and instants of its flat system after one another from the same starts and inputs.
pub record AreStepsOf (program : ProgramTree) (main : Identifier) (f : Flat) (starts : Sites → Value) (inputs : ℕ → ℕ → Value) (n : ℕ) (h : History)
    (states : ℕ → State) (rows : ℕ → Row) : Type 0 where
  pub well : AreWell program
  pub named : IsNode program main
  pub flat : IsFlatOf program main f
  pub run : IsRun program main starts inputs n h
  pub start : IsFlatStart f (map starts (memory_places f)) (states 0)
  pub instants : (t : ℕ) → t < n → IsFlatInstant f (states t) (flat_inputs f (inputs t)) (rows t)
  pub nexts : (t : ℕ) → t < n → IsFlatNext f (states t) (flat_inputs f (inputs t)) (rows t) (states (t + 1))

-- in a history the assertion at this place is there at an instant and not true
abbrev pub IsBrokenAt : ProgramTree → Identifier → (Sites → Value) → History → ℕ → Sites → Type 0
IsBrokenAt program main starts h t q = (i : Instance) × (a : AssertionTree) × (v : Value) × IsInstance program main i × Contains i.node.assertions a
    × (q ≡ i.path ++ a.site ∷ []) × (value program starts (cells h) i Base a.body t ≡ Some v) × (is_true v ≡ false)
