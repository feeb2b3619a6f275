-- The tables by which the clocks of a node are read.
use Rattle.std.specs.Prelude.{◌≡◌, ◌<◌, ◌^◌, suc, List, [], length, Option, Some, None as Nothing}
use Rattle.std.specs.List.{Contains}
use Rattle.rv_tree.specs.{declared.tree.Name.Name, Tree.NodeTree, Places.flows, Places.index_of}
use Rattle.rv_types.specs.{declared.typed.Clock.Clock, declared.typed.Clock.TheVariants.Base, declared.typed.Clock.TheVariants.On, Names.texts, Names.repeated}
use Rattle.rv_types.specs.{Known.flow_names, Clocks.flow_clocks, Clocks.ends, Chains.follow, Chains.is_base}

-- the names and the clocks of the flows of a node
pub record IsTiming (n : NodeTree) (names : List Name) (clocks : List Clock) : Type 0 where
  pub names_are : texts names ≡ flows n
  pub clocks_are : clocks ≡ flow_clocks n
  pub few : length names < 2 ^ 32
  pub few_clocks : length clocks < 2 ^ 32

-- the clock of a flow, by the names of flows
abbrev pub clock_by : List Name → Option Name → Clock
clock_by names Nothing = Base
clock_by names (Some c) = On (index_of (texts names) c.text)

-- for each flow the base clock exactly where its chain ends
abbrev pub EndsAt : NodeTree → List Clock → Type 0
EndsAt n jumps = (c : Clock) → is_base (follow jumps c) ≡ ends n (suc (length (flow_clocks n))) c

-- nodes whose flows have different names, and are few
abbrev pub HaveFlows : List NodeTree → Type 0
HaveFlows ns = (n : NodeTree) → Contains ns n → (repeated [] (flow_names n) ≡ []) × (length (flows n) < 2 ^ 32)
