-- Values are no larger than their weights.
use Rattle.std.proofs.Common.{◌≡◌, ℕ, ◌+◌, ◌*◌, ◌≤◌, ◌<◌, min, Bool, true, false, cond, nat_le, ℤ, pos, ◌+ℤ◌, ◌-ℤ◌, ◌*ℤ◌, nat_abs, refl, arith}
use Rattle.std.proofs.{Math.Nat.mul-le-mul_left, lemmas.Int.unsigned_abs-mul, lemmas.Int.ints, lemmas.Bool.Decides.nat_tests}
use Rattle.rv_base.specs.{declared.value.Value.Value, declared.value.Value.TheVariants.Whole, Limits.heaviest, Limits.too_heavy}
use Rattle.rv_tree.specs.declared.tree.Op.{Op}
use Rattle.rv_tree.specs.declared.tree.Op.TheVariants as op
use Rattle.rv_types.specs.Constants.{whole_in, counted, value_under, weight_under}

pub counted_small : (m : ℕ) (z : ℤ) → nat_abs z ≤ m → nat_abs (whole_in (counted m z)) ≤ min m too_heavy
counted_small m z h = tested (nat_le m heaviest) refl
  where
    tested : (b : Bool) → nat_le m heaviest ≡ b → nat_abs (whole_in (cond b (Whole z) (Whole (pos too_heavy)))) ≤ min m too_heavy
    tested true e = let l : m ≤ heaviest = grind (arith, nat_tests) in omega (arith, h, l)
    tested false e = let l : heaviest < m = grind (arith, nat_tests) in omega (arith, l)

-- what is counted within the bound is its own cap
pub capped : (m : ℕ) → m ≤ too_heavy → m ≡ min m too_heavy
capped m h = omega (arith, h)

pub sum_small : (y z : ℤ) (v w : ℕ) → nat_abs y ≤ v → nat_abs z ≤ w → nat_abs (y +ℤ z) ≤ v + w
sum_small y z v w g h = omega (arith, ints)

pub difference_small : (y z : ℤ) (v w : ℕ) → nat_abs y ≤ v → nat_abs z ≤ w → nat_abs (y -ℤ z) ≤ v + w
difference_small y z v w g h = omega (arith, ints)

pub product_small : (y z : ℤ) (w : ℕ) → nat_abs z ≤ w → nat_abs (y *ℤ z) ≤ nat_abs y * w
product_small y z w h = rw (unsigned_abs-mul y z) (mul-le-mul_left (nat_abs y) h)

pub under_small : (o : Op) (x y : Value) (v w : ℕ) → nat_abs (whole_in x) ≤ v → nat_abs (whole_in y) ≤ w
    → nat_abs (whole_in (value_under (weight_under o (nat_abs (whole_in x)) v w) o x y)) ≤ min (weight_under o (nat_abs (whole_in x)) v w) too_heavy
under_small op.Plus x y v w g h = counted_small (v + w) (whole_in x +ℤ whole_in y) (sum_small (whole_in x) (whole_in y) v w g h)
under_small op.Minus x y v w g h = counted_small (v + w) (whole_in x -ℤ whole_in y) (difference_small (whole_in x) (whole_in y) v w g h)
under_small op.Times x y v w g h = counted_small (nat_abs (whole_in x) * w) (whole_in x *ℤ whole_in y) (product_small (whole_in x) (whole_in y) w h)
under_small _ x y v w g h = omega arith

pub no_larger : (o : Op) (x y : Value) (v w : ℕ) (result : Value) (weight : ℕ) → nat_abs (whole_in x) ≤ v → nat_abs (whole_in y) ≤ w
    → weight ≡ min (weight_under o (nat_abs (whole_in x)) v w) too_heavy → result ≡ value_under (weight_under o (nat_abs (whole_in x)) v w) o x y
    → nat_abs (whole_in result) ≤ weight
no_larger o x y v w result weight g h e f = rw (e, f) (under_small o x y v w g h)
