-- What the forms of tests have at a point.
use Rattle.std.proofs.Common.{◌≡◌, ℤ, pos, negsuc, ◌-ℤ◌, Bool, List, arith}
use Rattle.std.proofs.lemmas.Int.{ints}
use Rattle.std.specs.Prelude.{int_le}
use Rattle.rv_rows.specs.Arithmetic.{form_times, form_difference}
use Rattle.rv_rows.specs.declared.linear.Form.{Form}
use Rattle.rv_rows.specs.Forms as forms
use Rattle.rv_types.specs.Lists.{Side, AtMost, AtLeast}
use Rattle.rv_agreement.specs.Valuations.{side_form}
use Rattle.rv_rows.proofs.FormValues.{less_times, sum_value, times_value}

-- the truth of a test at two integers
abbrev pub told : Side → ℤ → ℤ → Bool
told AtMost a b = int_le a b
told AtLeast a b = int_le b a

-- the truth of an order by a difference
below_zero : (d a b : ℤ) → d ≡ a -ℤ b → int_le d (pos 0) ≡ int_le a b
below_zero d a b e = grind (arith, ints)

module _ (x : List ℤ) where
  pub difference_value : (f g : Form) → forms.value (form_difference f g) x ≡ forms.value f x -ℤ forms.value g x
  difference_value f g =
      let a = sum_value x f (form_times (negsuc 0) g) in
      let b = times_value x (negsuc 0) g in let c = less_times (forms.value g x) in omega (arith, ints)

  -- the test's form at the point
  pub side_told : (side : Side) (f g : Form) → int_le (forms.value (side_form side f g) x) (pos 0) ≡ told side (forms.value f x) (forms.value g x)
  side_told AtMost f g = below_zero (forms.value (form_difference f g) x) (forms.value f x) (forms.value g x) (difference_value f g)
  side_told AtLeast f g = below_zero (forms.value (form_difference g f) x) (forms.value g x) (forms.value f x) (difference_value g f)
