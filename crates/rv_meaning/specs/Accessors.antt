-- What stands at a place of a program, and whose memories are asked for.
use Rattle.std.specs.{Prelude.◌≡◌, Prelude.ℕ, Prelude.List, Prelude.[], Prelude.◌∷◌, Prelude.◌++◌, Prelude.Some, List.Contains}
use Rattle.rv_tree.specs.{Tree.ProgramTree, Places.Identifier, Places.Sites, Places.flows, Delays.Delay, Delays.node_delays}
use Rattle.rv_types.specs.{declared.typed.Kind.Kind, Kinds.flow_kind, Values.operand_kind, Instances.Instance, Instances.place, Instances.IsInstance}
use Rattle.rv_types.specs.{Lists.MemoryAt, Lists.memory_places, Lists.AreMemories}

-- each of these is the path of an instance
abbrev pub ArePaths : ProgramTree → Identifier → List Sites → Type 0
ArePaths p main paths = (path : Sites) → Contains paths path → (i : Instance) × IsInstance p main i × (i.path ≡ path)

-- the path of the instance is one of these
abbrev pub IsOnePath : List Sites → Instance → Type 0
IsOnePath paths i = Contains paths i.path

-- The places are those of the memories of the instances with these paths, in order.
abbrev pub AreMemoryPlaces : ProgramTree → Identifier → List Sites → List Sites → Type 0
AreMemoryPlaces p main paths places = (ms : List MemoryAt) × AreMemories p main (IsOnePath paths) ms × (places ≡ memory_places ms)

module _ (p : ProgramTree) (main : Identifier) where
  -- A flow, `pre` or `current` of this type stands at the place.
  pub data IsKindAt (q : Sites) (k : Kind) : Type 0 where
    by_flow : (i : Instance) (x : Identifier) → IsInstance p main i → Contains (flows i.node) x → place i x ≡ q → flow_kind p i.node x ≡ Some k → IsKindAt q k
    by_delay : (i : Instance) (d : Delay) (s : ℕ) → IsInstance p main i → Contains (node_delays i.node) d → d.site ≡ Some s → i.path ++ s ∷ [] ≡ q
        → operand_kind p i.node d.operand ≡ k → IsKindAt q k
