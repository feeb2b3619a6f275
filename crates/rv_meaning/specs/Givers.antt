-- What gives each flow its value, and that each flow has exactly one such source, on its own clock.
use Rattle.std.specs.{Prelude.◌≡◌, Prelude.ℕ, Prelude.◌↔◌, Prelude.true, Prelude.Option, Prelude.Some, Prelude.IsSome, List.Contains}
use Rattle.rv_base.specs.declared.value.Value.{Value}
use Rattle.rv_tree.specs.{Tree.ProgramTree, Places.Identifier, Places.Sites, Places.flows}
use Rattle.rv_types.specs.Instances.{Instance, place, absolute, clock_of, IsInstance, IsFlow}
use Rattle.rv_types.specs.Needs.{Giver, Given, Of, Gives}
use Rattle.rv_meaning.specs.Meaning.{Cells, is_there, right_value}

-- what a giver makes of a history at the instant t
module _ (program : ProgramTree) (starts : Sites → Value) (inputs : ℕ → ℕ → Value) where
  abbrev pub expected : Giver → Cells → ℕ → Option Value
  expected (Given j) h t = Some (inputs t j)
  expected (Of i k r) h t = right_value program starts h i k r t

-- Each flow has one giver, on the flow's own clock.
pub record AreDefined (program : ProgramTree) (main : Identifier) : Type 0 where
  pub complete : (p : Sites) → IsFlow program main p → (g : Giver) × Gives program main p g
  pub flow : (p : Sites) (g : Giver) → Gives program main p g → IsFlow program main p
  pub one : (p : Sites) (a b : Giver) → Gives program main p a → Gives program main p b → a ≡ b
  pub clocked : (i : Instance) (x : Identifier) (g : Giver) (starts : Sites → Value) (inputs : ℕ → ℕ → Value) (h : Cells) (t : ℕ) → IsInstance program main i
      → Contains (flows i.node) x → Gives program main (place i x) g
      → IsSome (expected program starts inputs g h t) ↔ (is_there h (absolute i (clock_of i.node x)) t ≡ true)
