-- The flows of all instances by numbers, in the order of their places.
use Rattle.std.specs.Prelude.{ℕ, zero, suc, ◌<◌, List, [], ◌∷◌, ◌++◌, map, length, slice_index_or}
use Rattle.std.specs.List.{Contains}
use Rattle.rv_tree.specs.{Tree.NodeTree, Tree.ProgramTree, Places.Identifier, Places.Sites, Places.flows}
use Rattle.rv_types.specs.declared.fault.Pace.TheVariants.{Free, At, Mute, Differ}
use Rattle.rv_types.specs.{declared.typed.Clock.Clock, declared.typed.Clock.TheVariants.Base, declared.typed.Clock.TheVariants.On, declared.fault.Pace.Pace}
use Rattle.rv_types.specs.{Instances.IsFlow, Instances.no_node, Needs.IsBefore}
use Rattle.rv_instances.specs.{declared.answer.Instance.Instance as Numbered, declared.flows.Flow.Flow}

-- the place of a flow of one of these instances
abbrev pub flow_sites : List Numbered → Flow → Sites
flow_sites instances f = (slice_index_or instances f.instance (record { path = []; node = 0 })).path ++ f.site ∷ []

-- the places of these flows
abbrev pub flow_places : List Numbered → List Flow → List Sites
flow_places instances flows = map (flow_sites instances) flows

-- the place with a number
abbrev pub place_at : List Sites → ℕ → Sites
place_at places k = slice_index_or places k []

-- each flow is of one of the instances
abbrev pub AreOf : List Numbered → List Flow → Type 0
AreOf instances flows = (f : Flow) → Contains flows f → f.instance < length instances

-- The places are those of all flows, in order.
pub record AreFlowPlaces (p : ProgramTree) (main : Identifier) (places : List Sites) : Type 0 where
  pub rising : (j k : ℕ) → j < k → k < length places → IsBefore (place_at places j) (place_at places k)
  pub flows : (q : Sites) → IsFlow p main q → Contains places q
  pub only : (k : ℕ) → k < length places → IsFlow p main (place_at places k)

-- the flows of one instance with these many, by their sites
abbrev pub flows_below : ℕ → ℕ → List Flow
flows_below i zero = []
flows_below i (suc n) = flows_below i n ++ record { instance = i; site = n } ∷ []

-- the flows of the first instances, where each has so many
abbrev pub flows_to : (ℕ → ℕ) → ℕ → List Flow
flows_to count zero = []
flows_to count (suc n) = flows_to count n ++ flows_below n (count n)

-- how many flows an instance has
abbrev pub flow_count : ProgramTree → List Numbered → ℕ → ℕ
flow_count p instances i = length (flows (slice_index_or p.nodes (slice_index_or instances i (record { path = []; node = 0 })).node no_node))

-- the flows of all instances, in order
abbrev pub all_flows : ProgramTree → List Numbered → List Flow
all_flows p instances = flows_to (flow_count p instances) (length instances)

-- each instance is of a node
abbrev pub AreOfNodes : ProgramTree → List Numbered → Type 0
AreOfNodes p instances = (x : Numbered) → Contains instances x → x.node < length p.nodes

-- a clock is the base clock or a flow of the node
abbrev pub IsKnownClock : NodeTree → Clock → Type 0
IsKnownClock n Base = Unit {0}
IsKnownClock n (On c) = c < length (flows n)

-- the clock of a pace is
abbrev pub IsKnownPace : NodeTree → Pace → Type 0
IsKnownPace n (At c) = IsKnownClock n c
IsKnownPace n Free = Unit {0}
IsKnownPace n Mute = Unit {0}
IsKnownPace n Differ = Unit {0}
