-- The constants of a program are small.
use Rattle.std.proofs.Common.{arith, List, [], ◌∷◌, reverse}
use Rattle.std.proofs.lemmas.List.Elements.{All-nil, All-push}
use Rattle.std.specs.List.{All}
use Rattle.rv_tree.specs.Tree.{ConstantTree, ProgramTree}
use Rattle.rv_types.specs.{Constants.value_of, Scopes.constant_value_after, Scopes.constant_values_of, Scopes.constant_values}
use Rattle.rv_flatten.specs.Literals.{IsSmallValue}
use Rattle.rv_types.proofs.ConstantValues.{small_after, value_small}

module _ (program : ProgramTree) where
  listed_small : (cs : List ConstantTree) → All IsSmallValue (constant_values_of program cs)
  listed_small [] = All-nil IsSmallValue
  listed_small (c ∷ before) =
      All-push IsSmallValue (constant_values_of program before) (value_of (constant_value_after program before) c.body) (listed_small before)
      (omega (arith, value_small (constant_value_after program before) (small_after program before) c.body))

  pub constants_small : All IsSmallValue (constant_values program)
  constants_small = listed_small (reverse program.constants)
