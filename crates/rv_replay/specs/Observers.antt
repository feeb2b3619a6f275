-- Flat systems that a replay goes over, and what their observers have.
use Rattle.std.specs.Prelude.{◌≡◌, Bool, true, Some}
use Rattle.rv_base.specs.declared.value.Value.TheVariants.{Flag}
use Rattle.rv_tree.specs.{Tree.ProgramTree, Places.Identifier}
use Rattle.rv_types.specs.{Instances.IsNode, Instances.node_of, Kinds.decl_kinds, Scopes.is_observer, WellFormed.AreWell}
use Rattle.rv_flat.specs.{declared.flat.Flat.Flat, FlatInstants.Row, FlatInstants.nth, FlatOf.IsFlatOf}

-- The flat system is that of a well formed program whose main node has one output, a Boolean one.
pub record IsObserved (program : ProgramTree) (main : Identifier) (f : Flat) : Type 0 where
  pub well : AreWell program
  pub named : IsNode program main
  pub flat : IsFlatOf program main f
  pub observer : is_observer (decl_kinds program (node_of program main).outputs) ≡ true

-- the observer is there, with a truth value
abbrev pub HasTruth : Flat → Row → Type 0
HasTruth f row = (b : Bool) × (nth row f.observer ≡ Some (Flag b))
