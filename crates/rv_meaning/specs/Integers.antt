-- Programs without integer flows: what they do is the control alone.
use Rattle.std.specs.{Prelude.◌≡◌, Prelude.Some, List.Contains}
use Rattle.rv_tree.specs.{Tree.ProgramTree, Places.Identifier, Places.flows, Delays.Delay, Delays.node_delays}
use Rattle.rv_types.specs.declared.typed.Kind.TheVariants as kind
use Rattle.rv_types.specs.{Kinds.flow_kind, Values.operand_kind, Instances.Instance, Instances.IsInstance}

-- No flow of any instance and no operand of a `pre` or `current` is an integer. Integers that are compared are then those of constants.
pub record IsControl (program : ProgramTree) (main : Identifier) : Type 0 where
  pub flows : (i : Instance) (x : Identifier) → IsInstance program main i → Contains (flows i.node) x → flow_kind program i.node x ≡ Some kind.Int → ⊥
  pub delays : (i : Instance) (d : Delay) → IsInstance program main i → Contains (node_delays i.node) d → operand_kind program i.node d.operand ≡ kind.Int → ⊥
