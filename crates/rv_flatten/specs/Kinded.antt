-- The types in a flat system are those of its program.
use Rattle.std.specs.{Prelude.◌≡◌, Prelude.ℕ, Prelude.◌<◌, Prelude.[], Prelude.map, Prelude.length, Prelude.slice_get, Prelude.slice_index_or, List.Contains}
use Rattle.rv_tree.specs.{Tree.ProgramTree, Places.Identifier, Places.flows as flows_of}
use Rattle.rv_types.specs.Instances.{Instance, place, node_of, IsInstance}
use Rattle.rv_types.specs.{Kinds.decl_kinds, Kinds.flow_kind, Names.labels_of, Names.texts}
use Rattle.rv_agreement.specs.{Trees.System, Translation.Numbers}

-- Flows and inputs have the types of their program, and enumerations as many labels.
pub record IsKinded (program : ProgramTree) (main : Identifier) (numbers : Numbers) (s : System) : Type 0 where
  pub many : length s.kinds ≡ length s.flows
  pub flow : (i : Instance) (x : Identifier) (k : ℕ) → IsInstance program main i → Contains (flows_of i.node) x → k < length s.flows
      → slice_index_or numbers.flows k [] ≡ place i x
      → slice_get s.kinds k ≡ flow_kind program i.node x
  pub input : s.inputs ≡ decl_kinds program (node_of program main).inputs
  pub label : s.labels ≡ map (λ ls. length ls) (map (λ d. texts (labels_of d)) program.types)
