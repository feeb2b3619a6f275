-- Which flow needs which, as a graph, and cycles.
use Rattle.std.specs.Prelude.{◌≡◌, ℕ, ◌<◌, ◌≤◌, List, ◌++◌, length, slice_index_or}
use Rattle.std.specs.List.{Contains, All}
use Rattle.rv_tree.specs.{Tree.ProgramTree, Places.Identifier, Places.Sites}
use Rattle.rv_calls.specs.declared.fault.CauseFault.TheVariants.{Recursive, Cycle, TooLarge, TooWide, Memory}
use Rattle.rv_calls.specs.{declared.fault.CauseFault.CauseFault, Graphs.Graph, Graphs.edges}
use Rattle.rv_types.specs.{Needs.Giver, Needs.Gives, Needs.needs_of, Needs.NeedsFlow, Lists.sites_of}
use Rattle.rv_sequence.specs.Cycles.{IsCycleFromLeast}
use Rattle.rv_instances.specs.Flowing.{place_at, AreFlowPlaces}

-- Each of these places points to those that it needs at the same instant.
pub record IsFlowGraph (p : ProgramTree) (main : Identifier) (places : List Sites) (g : Graph) : Type 0 where
  pub size : length g ≡ length places
  pub placed : AreFlowPlaces p main places
  pub whole : (k : ℕ) (f : Giver) → k < length places → Gives p main (place_at places k) f
      → All (λ q. (j : ℕ) × Contains (edges g k) j × (place_at places j ≡ q)) (needs_of p f)
  pub sound : (k j : ℕ) → k < length places → Contains (edges g k) j → NeedsFlow p main (place_at places k) (place_at places j)

-- Numbers turned so that they begin with the least.
pub record AreTurned (old new : List ℕ) : Type 0 where
  pub front : List ℕ
  pub back : List ℕ
  pub was : old ≡ front ++ back
  pub is : new ≡ back ++ front
  pub least : (j : ℕ) → Contains new j → slice_index_or new 0 0 ≤ j

-- a cycle from its least place on; want of memory needs no cause
abbrev pub IsCycleFault : ProgramTree → Identifier → CauseFault → Type 0
IsCycleFault p main (Cycle ps) = IsCycleFromLeast p main (sites_of ps)
IsCycleFault p main Memory = Unit {0}
IsCycleFault p main (Recursive at) = ⊥
IsCycleFault p main (TooLarge q n) = ⊥
IsCycleFault p main (TooWide at) = ⊥
