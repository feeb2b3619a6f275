-- What gives each flow its value, by the numbers of flows and instances.
use Rattle.std.specs.Prelude.{◌≡◌, ℕ, ◌<◌, List, length, Some, slice_index_or}
use Rattle.rv_tree.specs.{Tree.Node, Tree.Call, Tree.ProgramTree, Tree.tree_of, Places.Identifier}
use Rattle.rv_types.specs.Instances as right
use Rattle.rv_types.specs.Needs.{Giver, Given, Of, Gives}
use Rattle.rv_instances.specs.declared.givers.Giver.TheVariants.{Input, Body, Output}
use Rattle.rv_instances.specs.Layouts.{IsNumberOf, all_places}
use Rattle.rv_instances.specs.{declared.answer.Instance.Instance as Numbered, declared.givers.Giver.Giver as Told, Flowing.place_at}

-- What is told is this giver: the same input of main, or the same right side of the same instance on the same clock.
abbrev pub StandsFor : ProgramTree → List Numbered → Told → Giver → Type 0
StandsFor p instances (Input j) (Given k) = j ≡ k
StandsFor p instances (Input j) (Of i k r) = ⊥
StandsFor p instances (Body b) (Of i k (right.Body e)) = IsNumberOf p instances b.instance i × (b.clock ≡ k) × (tree_of b.body.now ≡ e)
StandsFor p instances (Body b) (Of i k (right.Output c j)) = ⊥
StandsFor p instances (Body b) (Given k) = ⊥
StandsFor p instances (Output o) (Of i k (right.Output c j)) = IsNumberOf p instances o.instance i × (o.clock ≡ k)
    × (tree_of o.call.now ≡ Node c.at (Some c.site) (Call c.name c.args)) × (o.output ≡ j)
StandsFor p instances (Output o) (Of i k (right.Body e)) = ⊥
StandsFor p instances (Output o) (Given k) = ⊥

-- For each flow what gives it its value, and nothing else gives it one.
pub record AreGivers (p : ProgramTree) (main : Identifier) (instances : List Numbered) (givers : List Told) : Type 0 where
  pub size : length givers ≡ length (all_places p instances)
  pub each : (k : ℕ) → k < length givers → (f : Giver) × Gives p main (place_at (all_places p instances) k) f
  pub one : (k : ℕ) (f : Giver) → k < length givers → Gives p main (place_at (all_places p instances) k) f
      → StandsFor p instances (slice_index_or givers k (Input 0)) f
