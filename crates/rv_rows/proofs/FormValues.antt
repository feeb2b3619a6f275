-- What forms have at a point, and where the rows of tests hold.
use Rattle.std.proofs.Common.{◌≡◌, ℕ, zero, suc, ◌<◌, ℤ, pos, negsuc, ◌+ℤ◌, ◌-ℤ◌, ◌*ℤ◌, ◌≤ℤ◌, Bool, true, false, List, [], ◌∷◌, get_or, refl, sym, arith}
use Rattle.std.proofs.{Math.IntN.*ℤ-zero, Math.IntN.zero-*ℤ, lemmas.Int.ints}
use Rattle.std.specs.Prelude.{int_le}
use Rattle.rv_rows.specs.Arithmetic.{zeros, unit, plus, times, constant_form, column_form, form_sum, form_times, test_row}
use Rattle.rv_rows.specs.{declared.linear.Form.Form, Rows.dot, Rows.Holds}
use Rattle.rv_rows.specs.Forms as forms
use Rattle.rv_rows.proofs.IntLemmas.{mul_add, add_mul, mul_assoc_int}

one_times : (x : ℤ) → pos 1 *ℤ x ≡ x
one_times x = omega (arith, ints)

pub less_times : (x : ℤ) → negsuc 0 *ℤ x ≡ pos 0 -ℤ x
less_times x = omega (arith, ints)

dot-zeros : (n : ℕ) (xs : List ℤ) → dot (zeros n) xs ≡ pos 0
dot-zeros zero xs = refl
dot-zeros (suc n) [] = refl
dot-zeros (suc n) (x ∷ xs) = rw (zero-*ℤ x, dot-zeros n xs) refl

dot-unit : (k n : ℕ) (xs : List ℤ) → k < n → dot (unit k n) xs ≡ get_or xs k (pos 0)
dot-unit k zero xs lt = absurd (omega arith)
dot-unit zero (suc n) [] lt = refl
dot-unit zero (suc n) (x ∷ xs) lt = let e = dot-zeros n xs in let f = one_times x in omega (arith, ints)
dot-unit (suc k) (suc n) [] lt = refl
dot-unit (suc k) (suc n) (x ∷ xs) lt = let e = dot-unit k n xs (omega arith) in let f = zero-*ℤ x in omega (arith, ints)

dot-plus : (cs ds xs : List ℤ) → dot (plus cs ds) xs ≡ dot cs xs +ℤ dot ds xs
dot-plus [] ds xs = omega (arith, ints)
dot-plus (c ∷ cs) [] xs = omega (arith, ints)
dot-plus (c ∷ cs) (d ∷ ds) [] = refl
dot-plus (c ∷ cs) (d ∷ ds) (x ∷ xs) = let e = dot-plus cs ds xs in let f = add_mul c d x in omega (arith, ints)

dot-times : (n : ℤ) (cs xs : List ℤ) → dot (times n cs) xs ≡ n *ℤ dot cs xs
dot-times n [] xs = sym (*ℤ-zero n)
dot-times n (c ∷ cs) [] = sym (*ℤ-zero n)
dot-times n (c ∷ cs) (x ∷ xs) =
    let e = dot-times n cs xs in
    let f = mul_assoc_int n c x in
    let g = mul_add n (c *ℤ x) (dot cs xs) in
    omega (arith, ints)

module _ (x : List ℤ) where
  pub constant_value : (n : ℕ) (z : ℤ) → forms.value (constant_form n z) x ≡ z
  constant_value n z = let e = dot-zeros n x in omega (arith, ints)

  pub column_value : (n k : ℕ) → k < n → forms.value (column_form n k) x ≡ get_or x k (pos 0)
  column_value n k lt = let e = dot-unit k n x lt in omega (arith, ints)

  pub sum_value : (f g : Form) → forms.value (form_sum f g) x ≡ forms.value f x +ℤ forms.value g x
  sum_value f g = let e = dot-plus f.coefficients g.coefficients x in omega (arith, ints)

  pub times_value : (n : ℤ) (f : Form) → forms.value (form_times n f) x ≡ n *ℤ forms.value f x
  times_value n f = let e = dot-times n f.coefficients x in let g = mul_add n (dot f.coefficients x) f.constant in omega (arith, ints)

  -- the row of a true test holds where its form is at most 0, and that of a false one where it is at least 1
  row_true : (f : Form) → Holds (test_row true f) x → int_le (forms.value f x) (pos 0) ≡ true
  row_true f h = let g : (dot f.coefficients x) ≤ℤ (pos 0 -ℤ f.constant) = h in grind (arith, ints)

  row_false : (f : Form) → Holds (test_row false f) x → int_le (forms.value f x) (pos 0) ≡ false
  row_false f h =
      let g : (dot (times (negsuc 0) f.coefficients) x) ≤ℤ (f.constant -ℤ pos 1) = h in
      let e = dot-times (negsuc 0) f.coefficients x in
      let l = less_times (dot f.coefficients x) in
      let m : (pos 0 -ℤ dot f.coefficients x) ≤ℤ (f.constant -ℤ pos 1) = omega (arith, ints) in
      grind (arith, ints)

  pub row_told : (b : Bool) (f : Form) → Holds (test_row b f) x → b ≡ int_le (forms.value f x) (pos 0)
  row_told true f h = sym (row_true f h)
  row_told false f h = sym (row_false f h)

  holds_true : (f : Form) → int_le (forms.value f x) (pos 0) ≡ true → Holds (test_row true f) x
  holds_true f e = let g : forms.value f x ≤ℤ pos 0 = grind (arith, ints) in omega (arith, ints)

  holds_false : (f : Form) → int_le (forms.value f x) (pos 0) ≡ false → Holds (test_row false f) x
  holds_false f e =
      let d = dot-times (negsuc 0) f.coefficients x in
      let l = less_times (dot f.coefficients x) in
      let g : pos 1 ≤ℤ forms.value f x = grind (arith, ints) in
      omega (arith, ints)

  pub told_row : (b : Bool) (f : Form) → b ≡ int_le (forms.value f x) (pos 0) → Holds (test_row b f) x
  told_row true f e = holds_true f (sym e)
  told_row false f e = holds_false f (sym e)
