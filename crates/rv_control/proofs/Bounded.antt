-- The numbers of the forms that expressions have are bounded by weights.
use Rattle.std.proofs.Common.{◌≡◌, ◌⊎◌, inl, inr, ℕ, zero, suc, ◌+◌, ◌*◌, ◌<◌, ◌≤◌, ℤ, pos, negsuc, ◌+ℤ◌, ◌-ℤ◌, ◌*ℤ◌, ◌≤ℤ◌, ◌<ℤ◌, Bool, true, false, List, []}
use Rattle.std.proofs.Common.{◌∷◌, length, refl, sym, ◌∙◌, ap, subst, arith}
use Rattle.std.proofs.{Math.Nat.mul-le-mul_left, lemmas.Bool.cases_lt, lemmas.Int.ints, lemmas.Int.unsigned_abs-mul, lemmas.List.length-map}
use Rattle.std.specs.{Prelude.nat_abs, Int.RustNames.unsigned_abs}
use Rattle.rv_rows.specs.Arithmetic.{zeros, unit, plus, times, constant_form, column_form, form_sum, form_times, form_difference, test_row}
use Rattle.rv_rows.specs.{declared.linear.Row.Row, declared.linear.Form.Form, Forms.number, Rows.coefficient, Tight.IsTightened}
use Rattle.rv_rows.proofs.IntLemmas.{mul_add}

-- one number for each column, none of a magnitude above n
pub record IsBounded (columns n : ℕ) (f : Form) : Type 0 where
  pub wide : length f.coefficients ≡ columns
  pub each : (k : ℕ) → unsigned_abs (number k f.coefficients) ≤ n
  pub constant : unsigned_abs f.constant ≤ n

pub looser : (columns n more : ℕ) (f : Form) → n ≤ more → IsBounded columns n f → IsBounded columns more f
looser columns n more f le is = record {
  wide = is.wide;
  each = λ k. let h = is.each k in omega (arith, h, le);
  constant = let h = is.constant in
      omega (arith, h, le);
}

pub same_abs : (z : ℤ) → unsigned_abs z ≡ nat_abs z
same_abs (pos n) = refl
same_abs (negsuc n) = refl

pub length-zeros : (n : ℕ) → length (zeros n) ≡ n
length-zeros zero = refl
length-zeros (suc n) = ap suc (length-zeros n)

zero_at : (n k : ℕ) → unsigned_abs (number k (zeros n)) ≡ 0
zero_at zero k = refl
zero_at (suc n) zero = refl
zero_at (suc n) (suc k) = zero_at n k

pub length-unit : (k n : ℕ) → length (unit k n) ≡ n
length-unit k zero = refl
length-unit zero (suc n) = ap suc (length-zeros n)
length-unit (suc k) (suc n) = ap suc (length-unit k n)

unit_at : (k n i : ℕ) → unsigned_abs (number i (unit k n)) ≤ 1
unit_at k zero i = omega arith
unit_at zero (suc n) zero = omega arith
unit_at zero (suc n) (suc i) = let h = zero_at n i in omega (arith, h)
unit_at (suc k) (suc n) zero = omega arith
unit_at (suc k) (suc n) (suc i) = unit_at k n i

length-plus : (xs ys : List ℤ) (n : ℕ) → length xs ≡ n → length ys ≡ n → length (plus xs ys) ≡ n
length-plus [] ys n a b = b
length-plus (x ∷ xs) [] n a b = a
length-plus (x ∷ xs) (y ∷ ys) zero a b = absurd (omega arith)
length-plus (x ∷ xs) (y ∷ ys) (suc n) a b = ap suc (length-plus xs ys n (omega arith) (omega arith))

pub triangle : (a b : ℤ) (m n : ℕ) → unsigned_abs a ≤ m → unsigned_abs b ≤ n → unsigned_abs (a +ℤ b) ≤ m + n
triangle a b m n h k = omega (arith, ints)

plus_at : (xs ys : List ℤ) (m n : ℕ) → ((k : ℕ) → unsigned_abs (number k xs) ≤ m) → ((k : ℕ) → unsigned_abs (number k ys) ≤ n) → (k : ℕ)
    → unsigned_abs (number k (plus xs ys)) ≤ m + n
plus_at [] ys m n a b k = let h = b k in omega (arith, h)
plus_at (x ∷ xs) [] m n a b k = let h = a k in omega (arith, h)
plus_at (x ∷ xs) (y ∷ ys) m n a b zero = triangle x y m n (a 0) (b 0)
plus_at (x ∷ xs) (y ∷ ys) m n a b (suc k) = plus_at xs ys m n (λ j. a (suc j)) (λ j. b (suc j)) k

product : (z c : ℤ) (n : ℕ) → unsigned_abs c ≤ n → unsigned_abs (z *ℤ c) ≤ nat_abs z * n
product z c n h =
    let e = unsigned_abs-mul z c in
    let a = same_abs z in
    let le = mul-le-mul_left {m = unsigned_abs c} {n = n} (unsigned_abs z) h in
    subst (λ w. unsigned_abs (z *ℤ c) ≤ w * n) a (omega (arith, e, le))

times_at : (z : ℤ) (xs : List ℤ) (n : ℕ) → ((k : ℕ) → unsigned_abs (number k xs) ≤ n) → (k : ℕ) → unsigned_abs (number k (times z xs)) ≤ nat_abs z * n
times_at z [] n a k = omega arith
times_at z (x ∷ xs) n a zero = product z x n (a 0)
times_at z (x ∷ xs) n a (suc k) = times_at z xs n (λ j. a (suc j)) k

module _ (columns : ℕ) where
  pub constant_bounded : (z : ℤ) → IsBounded columns (nat_abs z) (constant_form columns z)
  constant_bounded z = record {
    wide = length-zeros columns;
    each = λ k. let h = zero_at columns k in omega (arith, h);
    constant = let e = same_abs z in
        omega (arith, e);
  }

  pub zero_bounded : (n : ℕ) → IsBounded columns n (constant_form columns (pos 0))
  zero_bounded n = looser columns 0 n (constant_form columns (pos 0)) (omega arith) (constant_bounded (pos 0))

  pub column_bounded : (k : ℕ) → IsBounded columns 1 (column_form columns k)
  column_bounded k = record { wide = length-unit k columns; each = unit_at k columns; constant = omega arith }

  pub sum_bounded : (m n : ℕ) (f g : Form) → IsBounded columns m f → IsBounded columns n g → IsBounded columns (m + n) (form_sum f g)
  sum_bounded m n f g a b = record {
    wide = length-plus f.coefficients g.coefficients columns a.wide b.wide;
    each = plus_at f.coefficients g.coefficients m n a.each b.each;
    constant = triangle f.constant g.constant m n a.constant b.constant;
  }

  pub times_bounded : (z : ℤ) (n : ℕ) (f : Form) → IsBounded columns n f → IsBounded columns (nat_abs z * n) (form_times z f)
  times_bounded z n f a = record {
    wide = length-map f.coefficients (λ c. z *ℤ c) ∙ a.wide;
    each = times_at z f.coefficients n a.each;
    constant = product z f.constant n a.constant;
  }

  pub difference_bounded : (m n : ℕ) (f g : Form) → IsBounded columns m f → IsBounded columns n g → IsBounded columns (m + n) (form_difference f g)
  difference_bounded m n f g a b =
      let one : 1 * n ≡ n = omega arith in
      sum_bounded m n f (form_times (negsuc 0) g) a (subst (λ k. IsBounded columns k (form_times (negsuc 0) g)) one (times_bounded (negsuc 0) n g b))

-- The row of a test of a bounded form, and what it is divided to.
pub record IsBoundedRow (columns m n : ℕ) (r : Row) : Type 0 where
  pub wide : length r.coefficients ≡ columns
  pub each : (k : ℕ) → unsigned_abs (coefficient k r) ≤ m
  pub bound : unsigned_abs r.bound ≤ n

less_abs : (z : ℤ) (n : ℕ) → unsigned_abs z ≤ n → unsigned_abs (pos 0 -ℤ z) ≤ n + 1
less_abs z n h = omega (arith, ints)

one_less_abs : (z : ℤ) (n : ℕ) → unsigned_abs z ≤ n → unsigned_abs (z -ℤ pos 1) ≤ n + 1
one_less_abs z n h = omega (arith, ints)

pub test_bounded : (columns n : ℕ) (b : Bool) (f : Form) → IsBounded columns n f → IsBoundedRow columns n (n + 1) (test_row b f)
test_bounded columns n true f is = record { wide = is.wide; each = is.each; bound = less_abs f.constant n is.constant }
test_bounded columns n false f is =
    let t = times_bounded columns (negsuc 0) n f is in
    let one : 1 * n ≡ n = omega arith in
    record {
      wide = t.wide;
      each = λ k. subst (λ m. unsigned_abs (number k (times (negsuc 0) f.coefficients)) ≤ m) one (t.each k);
      bound = one_less_abs
          f.constant n is.constant;
    }

divided_at : (g : ℕ) (old new : ℤ) (m : ℕ) → 0 < g → old ≡ pos g *ℤ new → unsigned_abs old ≤ m → unsigned_abs new ≤ m
divided_at g old new m some is le =
    let e = ap unsigned_abs is ∙ unsigned_abs-mul (pos g) new in
    let h = mul-le-mul_left {m = 1} {n = g} (unsigned_abs new) some in
    omega (arith, e, h, le)

between : (p o : ℤ) (g : ℕ) → p ≤ℤ o → o <ℤ (p +ℤ pos g) → unsigned_abs p ≤ unsigned_abs o + g
between p o g low high = omega (arith, ints)

divided_bound : (g : ℕ) (old new : ℤ) (m : ℕ) → 0 < g → (pos g *ℤ new) ≤ℤ old → old <ℤ (pos g *ℤ (new +ℤ pos 1)) → unsigned_abs old ≤ m
    → unsigned_abs new ≤ m + 1
divided_bound g old new m some low high le =
    let split = mul_add (pos g) new (pos 1) in
    let one : pos g *ℤ pos 1 ≡ pos g = omega (arith, ints) in
    let wide : pos g *ℤ (new +ℤ pos 1) ≡ (pos g *ℤ new) +ℤ pos g = split ∙ ap (λ z. (pos g *ℤ new) +ℤ z) one in
    let near = between (pos g *ℤ new) old g low (subst (λ z. old <ℤ z) wide high) in
    let size = unsigned_abs-mul (pos g) new in
    let whole : g * unsigned_abs new ≤ unsigned_abs old + g = omega (arith, near, size) in
    elim (cases_lt (m + 1) (unsigned_abs new)) [
      | inl large ↦
          let more : unsigned_abs old + 2 ≤ unsigned_abs new = omega arith in
          let scaled = mul-le-mul_left {m = unsigned_abs old + 2} {n = unsigned_abs new} g more in
          let up = mul-le-mul_left {m = 1} {n = g} (unsigned_abs old) some in
          absurd (omega (arith, whole, scaled, up, some))
      | inr small ↦ small
    ]

pub tightened_bounded : (columns m n : ℕ) (old new : Row) → IsTightened old new → IsBoundedRow columns m n old → IsBoundedRow columns m (n + 1) new
tightened_bounded columns m n old new is b = by (cases_lt 0 is.divisor)
  where
    by : (0 < is.divisor) ⊎ (is.divisor ≤ 0) → IsBoundedRow columns m (n + 1) new
    by (inr none) = subst (IsBoundedRow columns m (n + 1)) (sym (is.none (omega arith)))
        (record { wide = b.wide; each = b.each; bound = let h = b.bound in omega (arith, h) })
    by (inl some) =
        let d = is.divided some in
        record {
          wide = d.width ∙ b.wide;
          each = λ k. divided_at is.divisor (coefficient k old) (coefficient k new) m some (d.coefficients k) (b.each k);
          bound = divided_bound is.divisor old.bound new.bound n some d.lower d.upper b.bound;
        }
