-- How the flows of an instance, of its base clock and of its callees are numbered among the flows of all instances.
use Rattle.std.specs.Prelude.{◌≡◌, ℕ, zero, suc, ◌+◌, ◌<◌, ◌^◌, List, [], ◌∷◌, ◌++◌, length, unwrap_or, Option, Some, slice_index_or, None as Nothing}
use Rattle.std.specs.List.{Contains}
use Rattle.rv_tree.specs.{Tree.NodeTree, Tree.ProgramTree, Places.Identifier, Places.Sites, Places.flows}
use Rattle.rv_types.specs.Instances.{CallTree, calls, Instance, IsInstance, node_of, no_node}
use Rattle.rv_types.specs.{declared.typed.Clock.Clock, declared.typed.Clock.TheVariants.Base, declared.typed.Clock.TheVariants.On, Needs.IsBefore}
use Rattle.rv_instances.specs.{declared.answer.Instance.Instance as Numbered, declared.layout.Laid.Laid, declared.layout.Layout.Layout, Callees.callee_in}
use Rattle.rv_instances.specs.{AllInstances.numbered, Expanded.no_instance, Flowing.place_at, Flowing.flow_places, Flowing.flow_count, Flowing.all_flows}

-- The numbers of an instance: of its first flow; of the flow of its base clock, none for main's; and, by the site of a
-- call, of the first flow and of the first output of what is called.
pub record Here : Type 0 where
  pub offset : ℕ
  pub base : Option ℕ
  pub callee : ℕ → ℕ
  pub output : ℕ → ℕ

-- the number k is that of the place q
abbrev pub IsPlaced : List Sites → ℕ → Sites → Type 0
IsPlaced places k q = (k < length places) × (place_at places k ≡ q)

-- the number of the flow of a clock, none for main's base clock
abbrev pub IsClockPlaced : List Sites → Option ℕ → Option Sites → Type 0
IsClockPlaced places Nothing Nothing = Unit {0}
IsClockPlaced places (Some k) (Some q) = IsPlaced places k q
IsClockPlaced places Nothing (Some q) = ⊥
IsClockPlaced places (Some k) Nothing = ⊥

-- These are the numbers of an instance, where the flows of all have these places.
pub record IsHere (p : ProgramTree) (places : List Sites) (i : Instance) (h : Here) : Type 0 where
  pub flow : (s : ℕ) → s < length (flows i.node) → IsPlaced places (h.offset + s) (i.path ++ s ∷ [])
  pub base : IsClockPlaced places h.base i.base
  pub callee : (c : CallTree) (j : ℕ) → Contains (calls i.node) c → j < length (flows (node_of p c.name))
      → IsPlaced places (h.callee c.site + j) (i.path ++ c.site ∷ j ∷ [])
  pub output : (c : CallTree) → Contains (calls i.node) c → h.output c.site ≡ h.callee c.site + length (node_of p c.name).inputs

-- the number m is that of the instance
abbrev pub IsNumberOf : ProgramTree → List Numbered → ℕ → Instance → Type 0
IsNumberOf p instances m i = (m < length instances) × (slice_index_or instances m no_instance ≡ numbered p i)

-- the node of the instance with a number
abbrev pub node_at : ProgramTree → List Numbered → ℕ → NodeTree
node_at p instances m = slice_index_or p.nodes (slice_index_or instances m no_instance).node no_node

-- how many flows the first instances have
abbrev pub flows_before : (ℕ → ℕ) → ℕ → ℕ
flows_before count zero = 0
flows_before count (suc m) = flows_before count m + count m

-- the numbers of the first flow and of the first output of the instance with a number
abbrev pub laid_at : ProgramTree → List Numbered → ℕ → Laid
laid_at p instances m = record {
  first = flows_before (flow_count p instances) m;
  output = flows_before (flow_count p instances) m + length (node_at p instances m).inputs;
}

-- for the first instances
abbrev pub all_laid : ProgramTree → List Numbered → ℕ → List Laid
all_laid p instances zero = []
all_laid p instances (suc m) = all_laid p instances m ++ laid_at p instances m ∷ []

-- the number of the flow of a clock has 32 bits, where the first flow has this number
abbrev pub IsWithin : ℕ → Clock → Type 0
IsWithin first Base = Unit {0}
IsWithin first (On c) = first + c < 2 ^ 32

-- the number of the flow of a clock, by those of the first flow and of the base clock of its instance
abbrev pub number_of : ℕ → Option ℕ → Clock → Option ℕ
number_of first base Base = base
number_of first base (On c) = Some (first + c)

-- the path of the instance with a number
abbrev pub path_at : List Numbered → ℕ → Sites
path_at instances m = (slice_index_or instances m no_instance).path

-- The instances stand in the order of their paths, and with each stands that which calls it.
pub record ArePaths (instances : List Numbered) : Type 0 where
  pub rising : (j k : ℕ) → j < k → k < length instances → IsBefore (path_at instances j) (path_at instances k)
  pub closed : (k s : ℕ) (q : Sites) → k < length instances → path_at instances k ≡ q ++ s ∷ [] → (j : ℕ) × (j < length instances) × (path_at instances j ≡ q)

-- Each instance whose path is that of another and then one site is what a call of that other gives.
pub record AreCallees (instances : List Numbered) (table : List ((ℕ × ℕ) × ℕ)) : Type 0 where
  pub found : (m s k : ℕ) → m < length instances → k < length instances → path_at instances k ≡ path_at instances m ++ s ∷ [] → callee_in table m s ≡ Some k
  pub within : (m s k : ℕ) → callee_in table m s ≡ Some k → k < length instances

-- the instance that the call of an instance with a site gives, main where there is none
abbrev pub callee_or_main : List ((ℕ × ℕ) × ℕ) → ℕ → ℕ → ℕ
callee_or_main table m s = unwrap_or (callee_in table m s) 0

-- the numbers of the instance with a number
abbrev pub here_of : Layout → ℕ → Here
here_of l m = record {
  offset = (slice_index_or l.laid m (record { first = 0; output = 0 })).first;
  base = slice_index_or l.bases m Nothing;
  callee = λ s. (slice_index_or l.laid (callee_or_main l.callees m s) (record { first = 0; output = 0 })).first;
  output = λ s. (slice_index_or l.laid (callee_or_main l.callees m s) (record { first = 0; output = 0 })).output;
}

-- the places of the flows of all instances, by their numbers
abbrev pub all_places : ProgramTree → List Numbered → List Sites
all_places p instances = flow_places instances (all_flows p instances)

-- The base clock of the instance with a number has this number.
abbrev pub IsBaseOf : ProgramTree → Identifier → List Numbered → List (Option ℕ) → ℕ → Type 0
IsBaseOf p main instances bases m = (i : Instance) → IsInstance p main i → slice_index_or instances m no_instance ≡ numbered p i
    → IsClockPlaced (all_places p instances) (slice_index_or bases m Nothing) i.base

-- The layout of all instances: for each the numbers of its flows, of its base clock and of its callees.
pub record IsLayout (p : ProgramTree) (main : Identifier) (instances : List Numbered) (l : Layout) : Type 0 where
  pub laid : l.laid ≡ all_laid p instances (length instances)
  pub bases : length l.bases ≡ length instances
  pub callees : AreCallees instances l.callees
  pub base : (m : ℕ) → m < length instances → IsBaseOf p main instances l.bases m
