-- What is tested of a flat system to tell whether its source is without integer flows.
use Rattle.std.specs.{Prelude.◌≡◌, Prelude.false, List.All}
use Rattle.rv_types.specs.{Variables.is_integer, Instances.IsNode, WellFormed.AreWell}
use Rattle.rv_flat.specs.{declared.flat.Flat.Flat, FlatOf.IsFlatOf}
use Rattle.rv_tree.specs.{Tree.ProgramTree, Places.Identifier}
use Rattle.rv_meaning.specs.Runs.{IsSafe}
use Rattle.rv_proofs.specs.Runs.{IsSafeSystem}
use Rattle.rv_control.specs.Control.{control_of}

-- A flat system without integers: no flow, memory or input is one. Integers that are compared are then constants.
pub record IsControlSystem (f : Flat) : Type 0 where
  pub flows : All (λ g. is_integer g.kind ≡ false) f.flows
  pub memories : All (λ m. is_integer m.kind ≡ false) f.memories
  pub inputs : All (λ i. is_integer i.kind ≡ false) f.inputs

-- The flat system is that of a well formed program, which is safe where the system of valuations is.
pub record IsKnown (program : ProgramTree) (main : Identifier) (f : Flat) : Type 0 where
  pub well : AreWell program
  pub named : IsNode program main
  pub flat : IsFlatOf program main f
  pub safe : IsSafeSystem (control_of f) → IsSafe program main
