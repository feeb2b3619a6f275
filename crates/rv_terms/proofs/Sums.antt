-- Sums and multiples of forms are what their relations say.
use Rattle.std.proofs.Common.{ℕ, zero, suc, ◌<◌, ◌^◌, ◌≡◌, Bool, true, false, ℤ, pos, ◌+ℤ◌, ◌*ℤ◌, List, [], ◌∷◌, length, refl, sym, ◌∙◌, ⊎_elim, arith}
use Rattle.std.proofs.{lemmas.Int.ints, lemmas.Bool.cases_lt, lemmas.Bool.cases_Bool, lemmas.List.ext_get_or, lemmas.List.length-map}
use Rattle.std.specs.Int.RustNames.{unsigned_abs}
use Rattle.rv_rows.specs.Forms.{number, IsSum, IsMultiple, CanAdd, CanScale}
use Rattle.rv_rows.specs.{declared.linear.Form.Form, Arithmetic.plus, Arithmetic.times, Arithmetic.form_sum, Arithmetic.form_times}
use Rattle.rv_diagram.specs.Nodes.{Valuation}
use Rattle.rv_base.proofs.Numbers.{zero_add}

pub zero_right : (x : ℤ) → x +ℤ pos 0 ≡ x
zero_right x = omega (arith, ints)

times_zero : (n : ℤ) → n *ℤ pos 0 ≡ pos 0
times_zero n = omega (arith, ints)

pub plus-number : (xs ys : List ℤ) (k : ℕ) → number k (plus xs ys) ≡ number k xs +ℤ number k ys
plus-number [] ys k = sym (zero_add (number k ys))
plus-number (a ∷ rest) [] k = sym (zero_right (number k (a ∷ rest)))
plus-number (a ∷ rest) (b ∷ ys) zero = refl
plus-number (a ∷ rest) (b ∷ ys) (suc k) = plus-number rest ys k

pub length-plus : (xs ys : List ℤ) → length xs ≡ length ys → length (plus xs ys) ≡ length xs
length-plus [] ys e = sym e
length-plus (a ∷ rest) [] e = refl
length-plus (a ∷ rest) (b ∷ ys) e = let h : length (plus rest ys) ≡ length rest = length-plus rest ys (omega arith) in omega arith

pub times-number : (n : ℤ) (cs : List ℤ) (k : ℕ) → number k (times n cs) ≡ n *ℤ number k cs
times-number n [] k = sym (times_zero n)
times-number n (c ∷ cs) zero = refl
times-number n (c ∷ cs) (suc k) = times-number n cs k

pub sum_is : (a b c : Form) → length a.coefficients ≡ length b.coefficients → IsSum a b c → c ≡ form_sum a b
sum_is a b c same h =
    let numbers : c.coefficients ≡ plus a.coefficients b.coefficients =
    ext_get_or (pos 0) c.coefficients (plus a.coefficients b.coefficients) (h.width ∙ sym (length-plus a.coefficients b.coefficients same))
    (λ k low. h.coefficients k ∙ sym (plus-number a.coefficients b.coefficients k)) in
    let constant : c.constant ≡ a.constant +ℤ b.constant = h.constant in
    λ i. record { coefficients = numbers i; constant = constant i }

pub multiple_is : (by : ℤ) (a c : Form) → IsMultiple by a c → c ≡ form_times by a
multiple_is by a c h =
    let numbers : c.coefficients ≡ times by a.coefficients =
    ext_get_or (pos 0) c.coefficients (times by a.coefficients) (h.width ∙ sym (length-map a.coefficients (λ (x : ℤ). by *ℤ x)))
    (λ k low. h.coefficients k ∙ sym (times-number by a.coefficients k)) in
    let constant : c.constant ≡ by *ℤ a.constant = h.constant in
    λ i. record { coefficients = numbers i; constant = constant i }

pub length-sum : (a b : Form) → length a.coefficients ≡ length b.coefficients → length (form_sum a b).coefficients ≡ length a.coefficients
length-sum a b same = length-plus a.coefficients b.coefficients same

pub length-multiple : (by : ℤ) (a : Form) → length (form_times by a).coefficients ≡ length a.coefficients
length-multiple by a = length-map a.coefficients (λ (x : ℤ). by *ℤ x)

-- what is so at each valuation of a function that is not false everywhere
below_from : (u : Valuation → Bool) (m n : ℕ) → (((v : Valuation) → u v ≡ false) → ⊥) → ((v : Valuation) → u v ≡ true → m < n) → m < n
below_from u m n some each = ⊎_elim (λ lt. lt) (λ ge. absurd (some
    (λ v. ⊎_elim (λ t. let lt : m < n = each v t in absurd (omega arith)) (λ f. f) (cases_Bool (u v))))) (cases_lt m n)

pub can_add_from : (u : Valuation → Bool) (a b : Form) → (((v : Valuation) → u v ≡ false) → ⊥) → ((v : Valuation) → u v ≡ true → CanAdd a b) → CanAdd a b
can_add_from u a b some each = record {
  coefficients = λ k. below_from u (unsigned_abs (number k a.coefficients +ℤ number k b.coefficients)) (2 ^ 110) some (λ v h. (each v h).coefficients k);
  constant = below_from u (unsigned_abs (a.constant +ℤ b.constant)) (2 ^ 110) some (λ v h. (each v h).constant);
}

pub can_scale_from : (u : Valuation → Bool) (by : ℤ) (a : Form) → (((v : Valuation) → u v ≡ false) → ⊥) → ((v : Valuation) → u v ≡ true → CanScale by a)
    → CanScale by a
can_scale_from u by a some each = record {
  coefficients = λ k. below_from u (unsigned_abs (by *ℤ number k a.coefficients)) (2 ^ 110) some (λ v h. (each v h).coefficients k);
  constant = below_from u (unsigned_abs (by *ℤ a.constant)) (2 ^ 110) some (λ v h. (each v h).constant);
}
