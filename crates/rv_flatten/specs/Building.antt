-- What is found of a program, and what is made of it, before its flat system is put together.
use Rattle.std.specs.Prelude.{◌≡◌, ℕ, ◌<◌, List, [], map, length, unwrap_or, Some, slice_index_or, slice_get}
use Rattle.std.specs.List.{Contains}
use Rattle.rv_tree.specs.{Tree.AssertionTree, Tree.ProgramTree, Places.Identifier, Places.Sites, Places.flows, Delays.Delay, Delays.node_delays}
use Rattle.rv_types.specs.Lists.{AreTicks, AreComparisons, delay_place, sites_of}
use Rattle.rv_types.specs.{declared.typed.Kind.Kind, Kinds.flow_kind, Kinds.flow_kinds, Scopes.constant_value, ValueTables.value_by, Instances.Instance}
use Rattle.rv_types.specs.{Instances.place, Instances.IsInstance, Needs.Giver, Needs.Gives, Needs.IsSequence}
use Rattle.rv_types.specs.declared.typed.Kind.TheVariants as kind
use Rattle.rv_instances.specs.Expanded.{IsKnown, no_instance, program_of, main_of}
use Rattle.rv_instances.specs.{declared.expanded.Expanded.Expanded, declared.flows.Flow.Flow, Flowing.AreOf, Flowing.all_flows, Givers.AreGivers}
use Rattle.rv_instances.specs.{Layouts.IsLayout, Layouts.IsNumberOf, Layouts.all_places, Weights.AreLight}
use Rattle.rv_flatten.specs.Kept.{AreKept, kept_memory, found_comparison}
use Rattle.rv_flatten.specs.Readings.{raw_flow, raw_memory, raw_giver, raw_delay, assertion_of}
use Rattle.rv_flatten.specs.{declared.found.Found.Found, declared.given.Given.Given, Frames.IsNumbering, NodeReaders.AreOwnTables, Positions.AreNumbersOf}
use Rattle.rv_flat.specs.{declared.parts.FlatExpr.FlatExpr, declared.parts.FlatFlow.FlatFlow, declared.parts.FlatMemory.FlatMemory, Facts.numbers_among}
use Rattle.rv_flat.specs.{RawTree.RawTree, RawTree.raw_tree, Systems.memory_of}
use Rattle.rv_agreement.specs.Translation.{Numbers}

-- the places of the flows, memories and ticks, by their numbers
abbrev pub numbers_found : List Sites → Found → Numbers
numbers_found sequence f = record { flows = sequence; memories = map (λ k. k.place.sites) f.kept; ticks = sites_of f.ticks }

-- The memories, ticks and comparisons of a program, the numbers of its flows in the sequence, the numbers of all in the flat
-- system, and those of the flows of the ticks.
pub record IsFound (x : Expanded) (sequence : List Sites) (f : Found) : Type 0 where
  pub kept : AreKept (program_of x) (main_of x) x.instances.now f.kept
  pub ticks : AreTicks (program_of x) (main_of x) (sites_of f.ticks)
  pub comparisons : AreComparisons (program_of x) (main_of x) (map found_comparison f.comparisons)
  pub order : AreNumbersOf (all_places (program_of x) x.instances.now) sequence f.order
  pub numbering : IsNumbering (program_of x) (main_of x) x.instances.now (numbers_found sequence f) f.numbering
  pub tick_flows : f.tick_flows ≡ numbers_among sequence (sites_of f.ticks)

-- What is known of a program that is accepted, while its flat system is made.
pub record IsGiven (g : Given) : Type 0 where
  pub known : IsKnown g.expanded.now
  pub layout : IsLayout (program_of g.expanded.now) (main_of g.expanded.now) g.expanded.now.instances.now g.layout.now
  pub givers : AreGivers (program_of g.expanded.now) (main_of g.expanded.now) g.expanded.now.instances.now g.givers.now
  pub flows : g.flows.now ≡ all_flows (program_of g.expanded.now) g.expanded.now.instances.now
  pub of : AreOf g.expanded.now.instances.now g.flows.now
  pub owns : AreOwnTables (program_of g.expanded.now) g.tables.now g.owns.now
  pub values : value_by g.values.now ≡ constant_value (program_of g.expanded.now)
  pub kinds : g.kinds.now ≡ map (flow_kinds (program_of g.expanded.now)) (program_of g.expanded.now).nodes
  pub sequence : IsSequence (program_of g.expanded.now) (main_of g.expanded.now) (sites_of g.sequence.now)
  pub light : AreLight (program_of g.expanded.now) (main_of g.expanded.now)

-- the program that is known, its main node, and the places of its flows, memories and ticks by their numbers
abbrev pub program_given : Given → ProgramTree
program_given g = program_of g.expanded.now

abbrev pub main_given : Given → Identifier
main_given g = main_of g.expanded.now

abbrev pub numbers_of : Given → Found → Numbers
numbers_of g f = numbers_found (sites_of g.sequence.now) f

-- what is found is of this program
abbrev pub IsFoundOf : Given → Found → Type 0
IsFoundOf g f = IsFound g.expanded.now (sites_of g.sequence.now) f

-- the type of a flow, by the types of the flows of each node
abbrev pub kind_at : Given → Flow → Kind
kind_at g f = unwrap_or (slice_get (slice_index_or g.kinds.now (slice_index_or g.expanded.now.instances.now f.instance no_instance).node []) f.site) kind.Bool

-- a flow is made of what gives it
pub record IsMade (p : ProgramTree) (main : Identifier) (numbers : Numbers) (q : Sites) (f : FlatFlow) : Type 0 where
  pub at : f.place.sites ≡ q
  pub giver : Giver
  pub gives : Gives p main q giver
  pub item : raw_flow f ≡ raw_giver p numbers giver
  pub kind : (i : Instance) (x : Identifier) → IsInstance p main i → Contains (flows i.node) x → q ≡ place i x → Some f.kind ≡ flow_kind p i.node x

-- The flows are made so, in this order.
pub record AreMade (p : ProgramTree) (main : Identifier) (numbers : Numbers) (sequence : List Sites) (fs : List FlatFlow) : Type 0 where
  pub many : length fs ≡ length sequence
  pub each : (k : ℕ) (f : FlatFlow) → slice_get fs k ≡ Some f → IsMade p main numbers (slice_index_or sequence k []) f

-- a memory is made of what it takes
pub record IsRemembered (p : ProgramTree) (main : Identifier) (numbers : Numbers) (m : FlatMemory) : Type 0 where
  pub i : Instance
  pub d : Delay
  pub is : IsInstance p main i
  pub there : Contains (node_delays i.node) d
  pub at : m.place.sites ≡ delay_place i d
  pub item : raw_memory m ≡ raw_delay p numbers i d

-- The memories are made so.
pub record AreRemembered (x : Expanded) (sequence : List Sites) (f : Found) (ms : List FlatMemory) : Type 0 where
  pub list : map memory_of ms ≡ map kept_memory f.kept
  pub each : (k : ℕ) (m : FlatMemory) → slice_get ms k ≡ Some m → IsRemembered (program_of x) (main_of x) (numbers_found sequence f) m

-- an assertion of an instance is made so
abbrev pub IsAsserted : ProgramTree → Identifier → Numbers → RawTree → Type 0
IsAsserted p main numbers e = (i : Instance) × (a : AssertionTree) × IsInstance p main i × Contains i.node.assertions a × (e ≡ assertion_of p numbers i a)

-- The assertions of the first instances are made so, and no others.
pub record AreAsserted (x : Expanded) (numbers : Numbers) (first : ℕ) (es : List FlatExpr) : Type 0 where
  pub all : (m : ℕ) (i : Instance) (a : AssertionTree) → m < first → IsInstance (program_of x) (main_of x) i → IsNumberOf (program_of x) x.instances.now m i
      → Contains i.node.assertions a
      → Contains (map raw_tree es) (assertion_of (program_of x) numbers i a)
  pub only : (e : RawTree) → Contains (map raw_tree es) e → IsAsserted (program_of x) (main_of x) numbers e
