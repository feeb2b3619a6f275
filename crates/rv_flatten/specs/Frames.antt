-- What an instance is read with while its expressions are made flat.
use Rattle.std.specs.{Prelude.◌≡◌, Prelude.ℕ, Prelude.◌+◌, Prelude.◌<◌, Prelude.List, Prelude.length, Prelude.Some, Prelude.slice_index_or, List.Contains}
use Rattle.rv_tree.specs.{Tree.ProgramTree, Places.Identifier, Places.index_of, Places.memory_site, Delays.Delay, Delays.node_delays}
use Rattle.rv_types.specs.{Scopes.node_scope, Scopes.constant_value, ValueTables.value_by, Instances.Instance, Instances.IsInstance, Lists.delay_place}
use Rattle.rv_instances.specs.{declared.answer.Instance.Instance as Numbered, Callees.callee_in, Expanded.IsKnown, Expanded.program_of, Expanded.main_of}
use Rattle.rv_instances.specs.{Flowing.place_at, Layouts.IsLayout, Layouts.IsNumberOf, Layouts.all_places, NumberedNeeds.IsReader, NumberedNeeds.node_read}
use Rattle.rv_instances.specs.{Weights.AreLight}
use Rattle.rv_flatten.specs.{declared.frame.Frame.Frame, declared.numbering.Numbering.Numbering, NodeReaders.scope_by}
use Rattle.rv_agreement.specs.Translation.{Numbers}

-- These are the numbers of the flows, ticks and memories at these places.
pub record IsNumbering (p : ProgramTree) (main : Identifier) (instances : List Numbered) (numbers : Numbers) (n : Numbering) : Type 0 where
  pub flows : (k : ℕ) → k < length (all_places p instances) → slice_index_or n.flows k 0 ≡ index_of numbers.flows (place_at (all_places p instances) k)
  pub ticks : (k : ℕ) → k < length (all_places p instances) → Contains numbers.ticks (place_at (all_places p instances) k)
      → slice_index_or n.ticks k 0 ≡ index_of numbers.ticks (place_at (all_places p instances) k) + 1
  pub memories : (m : ℕ) (i : Instance) (d : Delay) → IsInstance p main i → IsNumberOf p instances m i → Contains (node_delays i.node) d
      → callee_in n.memories m (memory_site i.node d.site d.operand) ≡ Some (index_of numbers.memories (delay_place i d))

-- The frame is that of the instance, in a program that is accepted.
pub record IsFrame (numbers : Numbers) (i : Instance) (f : Frame) : Type 0 where
  pub known : IsKnown f.expanded.now
  pub light : AreLight (program_of f.expanded.now) (main_of f.expanded.now)
  pub instance : IsInstance (program_of f.expanded.now) (main_of f.expanded.now) i
  pub number : IsNumberOf (program_of f.expanded.now) f.expanded.now.instances.now f.reader.instance i
  pub reader : IsReader f.reader
  pub node : node_read f.reader ≡ i.node
  pub scope : scope_by f.tables.now f.own.now ≡ node_scope (program_of f.expanded.now) i.node
  pub layout : IsLayout (program_of f.expanded.now) (main_of f.expanded.now) f.expanded.now.instances.now f.reader.layout.now
  pub values : value_by f.values.now ≡ constant_value (program_of f.expanded.now)
  pub numbering : IsNumbering (program_of f.expanded.now) (main_of f.expanded.now) f.expanded.now.instances.now numbers f.numbering.now
