-- Bounds from below as limits of opposites.
use Rattle.std.proofs.Common.{◌≡◌, ℤ, pos, ◌-ℤ◌, Option, Some, ap}
use Rattle.std.proofs.Common.{arith, None as Nothing}
use Rattle.std.proofs.{lemmas.Int.ints, lemmas.Option.same_Some}
use Rattle.rv_boxes.specs.{Claiming.turned}

-- bounds from below as limits of opposites
pub turned_back : (o : Option ℤ) (b : ℤ) → turned o ≡ Some b → o ≡ Some (pos 0 -ℤ b)
turned_back (Some a) b e = ap Some (back a b (same_Some (pos 0 -ℤ a) b e))
  where
    back : (a b : ℤ) → pos 0 -ℤ a ≡ b → a ≡ pos 0 -ℤ b
    back a b e = omega (arith, ints)
turned_back Nothing b e = cc
