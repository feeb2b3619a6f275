-- What is found of memories and comparisons, as those of the program.
use Rattle.std.specs.{Prelude.◌≡◌, Prelude.List, Prelude.map, List.Contains}
use Rattle.rv_tree.specs.{Tree.ProgramTree, Tree.tree_of, Places.Identifier, Delays.Delay, Delays.node_delays}
use Rattle.rv_types.specs.{Instances.Instance, Instances.IsInstance, Lists.IsAny, Lists.MemoryAt, Lists.ComparisonAt, Lists.AreMemories, Lists.delay_place}
use Rattle.rv_instances.specs.{declared.answer.Instance.Instance as Numbered, Layouts.IsNumberOf, NumberedNeeds.clock_of_expression}
use Rattle.rv_flatten.specs.{declared.kept.Kept.Kept, declared.kept.Comparison.Comparison}

-- a memory by its place and type
abbrev pub kept_memory : Kept → MemoryAt
kept_memory k = record { place = k.place.sites; kind = k.kind }

-- a comparison by its place and operator
abbrev pub found_comparison : Comparison → ComparisonAt
found_comparison c = record { place = c.place.sites; operator = c.operator }

-- It is read by a `pre` or `current` of the instance with its number.
pub record IsKept (p : ProgramTree) (main : Identifier) (instances : List Numbered) (k : Kept) : Type 0 where
  pub i : Instance
  pub d : Delay
  pub is : IsInstance p main i
  pub number : IsNumberOf p instances k.instance i
  pub there : Contains (node_delays i.node) d
  pub operand : tree_of k.operand.now ≡ d.operand
  pub clock : k.clock ≡ clock_of_expression i.node d.operand
  pub place : k.place.sites ≡ delay_place i d

-- These are the memories of all instances, in the order of their places.
pub record AreKept (p : ProgramTree) (main : Identifier) (instances : List Numbered) (ks : List Kept) : Type 0 where
  pub list : AreMemories p main IsAny (map kept_memory ks)
  pub each : (k : Kept) → Contains ks k → IsKept p main instances k
