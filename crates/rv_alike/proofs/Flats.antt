-- Two flat systems of one program are one system of valuations.
use Rattle.std.proofs.Common.{◌≡◌, map, ◌∙◌, ap}
use Rattle.rv_tree.specs.{Tree.ProgramTree, Places.Identifier}
use Rattle.rv_flat.specs.{declared.flat.Flat.Flat, FlatInstants.system_of, FlatOf.IsFlatOf, FlatOf.numbers_of, Lists.variable_of}
use Rattle.rv_control.specs.{Control.control_over, Control.control_of, Named.variables_of}
use Rattle.rv_alike.proofs.{Names.same_variables, Systems.Laws, Systems.same_control}

pub same_systems : (program : ProgramTree) (main : Identifier) (f g : Flat) → Laws program main → IsFlatOf program main f → IsFlatOf program main g
    → control_of f ≡ control_of g
same_systems program main f g laws first second =
    same_control program main laws (numbers_of f) (numbers_of g) (system_of f) (system_of g) first.system second.system first.compares first.compares_only
    second.compares second.compares_only (variables_of f)
    ∙ ap (λ vs. control_over (system_of g) (map variable_of vs)) (same_variables program main f g first second)
