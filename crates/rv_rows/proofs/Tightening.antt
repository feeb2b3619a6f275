-- Each row has exactly one tightened row.
use Rattle.std.proofs.Common.{◌≡◌, ℕ, zero, suc, ◌+◌, ◌*◌, ◌/◌, ◌%◌, ◌<◌, ◌≤◌, ℤ, pos, negsuc, ◌+ℤ◌, ◌*ℤ◌, ◌≤ℤ◌, ◌<ℤ◌, List, [], ◌∷◌, map, length, get_or, refl}
use Rattle.std.proofs.Common.{sym, ◌∙◌, ap, arith, inl, inr, ◌⊎◌, subst, All}
use Rattle.std.proofs.lemmas.List.Elements.{All-from_get_or, All-nil, All-cons, All-head, All-tail, All-weaker}
use Rattle.std.proofs.{Math.Nat.dvd_trans, Math.Nat.dvd-zero, Math.Nat.one-dvd, Math.Nat.mul-dvd-mul_left, Math.Nat.dvd_of_mul-dvd-mul_left, Math.IntN.*ℤ-zero}
use Rattle.std.proofs.{lemmas.Int.ints, lemmas.Int.unsigned_abs-mul, lemmas.Bool.cases_lt, lemmas.Nat.Gcd.IsGcd-from_zero, lemmas.Nat.Gcd.IsGcd-from_mod}
use Rattle.std.proofs.{lemmas.Nat.Gcd.dvd_antisymm, lemmas.List.length-map, lemmas.List.get_or_past, lemmas.List.get_or-map, lemmas.List.ext_get_or}
use Prim.Native.Nat.{◌∣◌}
use borrow.Author.Differences.{up, down, product_is, at_most_in, sum_is_lem}
use Rattle.std.specs.{Int.IsGcd, Int.RustNames.unsigned_abs}
use Rattle.rv_rows.specs.{declared.linear.Row.Row, Rows.coefficient, Tight.IsCommonDivisor, Tight.IsDivided, Tight.IsTightened}
use Rattle.rv_rows.proofs.{TightLemmas.exact_quotient, TightLemmas.antisym, IntLemmas.mul_add, IntLemmas.below_next, IntLemmas.le_lt_trans}

-- two numbers have a greatest common divisor
some_gcd : (n a b : ℕ) → b < n → (g : ℕ) × IsGcd a b g
some_gcd zero a b lt = absurd (omega arith)
some_gcd (suc n) a zero lt = (a, IsGcd-from_zero a 0 refl)
some_gcd (suc n) a (suc b) lt =
    let less : a % suc b < suc b = omega arith in
    let rest = some_gcd n (suc b) (a % suc b) (omega arith) in
    (rest.0, IsGcd-from_mod a (suc b) rest.0 rest.1)

-- and so have some
some_divisor : (cs : List ℤ) → (g : ℕ) × IsCommonDivisor g cs
some_divisor [] = (0, record { divides = All-nil (λ c. 0 ∣ unsigned_abs c); greatest = λ d e. dvd-zero d })
some_divisor (c ∷ cs) =
    let rest = some_divisor cs in
    let both = some_gcd (suc rest.0) (unsigned_abs c) rest.0 (omega arith) in (
      both.0,
      record {
        divides = All-cons (λ z. both.0 ∣ unsigned_abs z) c cs both.1.0
            (All-weaker (λ z. rest.0 ∣ unsigned_abs z) (λ z. both.0 ∣ unsigned_abs z) (λ z h. dvd_trans both.0 both.1.1 h) cs rest.1.divides);
        greatest = λ d e. both.1.2 d (All-head (λ z. d ∣ unsigned_abs z) c cs e) (rest.1.greatest d (All-tail (λ z. d ∣ unsigned_abs z) c cs e));
      },
    )

-- a quotient, rounded down
quotient : ℤ → ℕ → ℤ
quotient (pos n) g = pos (n / g)
quotient (negsuc n) g = negsuc (n / g)

lower : (z : ℤ) (g : ℕ) → 0 < g → (pos g *ℤ quotient z g) ≤ℤ z
unfolding quotient
lower (pos n) g some = let e : g * (n / g) + n % g ≡ n = omega arith in let p = product_is (pos g) (pos (n / g)) in at_most_in _ _ (omega arith)
lower (negsuc n) g some =
    let e : g * (n / g) + n % g ≡ n = omega arith in
    let m : n % g < g = omega arith in
    let p = product_is (pos g) (negsuc (n / g)) in
    let q : g * suc (n / g) ≡ g * (n / g) + g = omega arith in
    at_most_in _ _ (omega arith)

upper : (z : ℤ) (g : ℕ) → 0 < g → z <ℤ (pos g *ℤ (quotient z g +ℤ pos 1))
unfolding quotient
upper (pos n) g some =
    let e : g * (n / g) + n % g ≡ n = omega arith in
    let m : n % g < g = omega arith in
    let p = product_is (pos g) (pos (n / g) +ℤ pos 1) in
    let q : g * (n / g + 1) ≡ g * (n / g) + g = omega arith in
    let h : (pos n +ℤ pos 1) ≤ℤ (pos g *ℤ (pos (n / g) +ℤ pos 1)) = at_most_in _ _ (omega arith) in
    omega (arith, ints)
upper (negsuc n) g some =
    let e : g * (n / g) + n % g ≡ n = omega arith in
    let w = negsuc (n / g) +ℤ pos 1 in
    let p = product_is (pos g) w in
    let s = sum_is_lem (negsuc (n / g)) (pos 1) in
    let l : up w + n / g ≡ down w = omega arith in
    let q : g * (up w + n / g) ≡ g * down w = ap (λ k. g * k) l in
    let o = sum_is_lem (negsuc n) (pos 1) in
    let h : (negsuc n +ℤ pos 1) ≤ℤ (pos g *ℤ w) = at_most_in _ _ (omega arith) in
    omega (arith, ints)

-- each row has a tightened one
pub some_tightened : (r : Row) → (t : Row) × IsTightened r t
some_tightened r = by (some_divisor r.coefficients) (cases_lt 0 (some_divisor r.coefficients).0)
  where
    by : (d : (g : ℕ) × IsCommonDivisor g r.coefficients) → (0 < d.0) ⊎ (d.0 ≤ 0) → (t : Row) × IsTightened r t
    by d (inr none) = (r, record { divisor = d.0; common = d.1; none = λ e. refl; divided = λ lt. absurd (omega arith) })
    by d (inl some) =
        let new : Row = record { coefficients = map (λ c. quotient c d.0) r.coefficients; bound = quotient r.bound d.0 } in (
          new,
          record {
            divisor = d.0;
            common = d.1;
            none = λ e. absurd (omega arith);
            divided = λ lt. record {
              width = length-map r.coefficients (λ c. quotient c d.0);
              coefficients = λ k. column d.0 lt d.1 k
                  (cases_lt k (length r.coefficients));
              lower = lower r.bound d.0 lt;
              upper = upper r.bound d.0 lt;
            };
          },
        )
      where
        column : (g : ℕ) → 0 < g → IsCommonDivisor g r.coefficients → (k : ℕ) → (k < length r.coefficients) ⊎ (length r.coefficients ≤ k)
            → coefficient k r ≡ pos g *ℤ get_or (map (λ c. quotient c g) r.coefficients) k (pos 0)
        column g some common k (inl lt) =
            exact_quotient g (get_or r.coefficients k (pos 0)) (quotient (get_or r.coefficients k (pos 0)) g) some (common.divides k (pos 0) lt)
            (lower (get_or r.coefficients k (pos 0)) g some) (upper (get_or r.coefficients k (pos 0)) g some)
            ∙ ap (λ z. pos g *ℤ z) (sym (get_or-map (λ c. quotient c g) r.coefficients k (pos 0) (pos 0) lt))
        column g some common k (inr past) =
            get_or_past r.coefficients k (pos 0) past ∙ sym (ap (λ z. pos g *ℤ z)
            (get_or_past (map (λ c. quotient c g) r.coefficients) k (pos 0) (rw length-map past)) ∙ *ℤ-zero (pos g))

-- and only one

same_divisor : (g h : ℕ) (cs : List ℤ) → IsCommonDivisor g cs → IsCommonDivisor h cs → g ≡ h
same_divisor g h cs a b = dvd_antisymm (b.greatest g a.divides) (a.greatest h b.divides)

same_whole : (g : ℕ) (a b z : ℤ) → 0 < g → (pos g *ℤ a) ≤ℤ z → z <ℤ (pos g *ℤ (b +ℤ pos 1)) → a ≤ℤ b
same_whole g a b z some low high =
    let positive : pos 1 ≤ℤ pos g = omega (arith, ints) in
    below_next (pos g) a b positive (le_lt_trans _ _ _ low high)

same_product : (g : ℕ) (a b z : ℤ) → 0 < g → z ≡ pos g *ℤ a → z ≡ pos g *ℤ b → a ≡ b
same_product g a b z some first second =
    let e : pos g *ℤ a ≡ pos g *ℤ b = sym first ∙ second in
    let m = mul_add (pos g) a (pos 1) in
    let n = mul_add (pos g) b (pos 1) in
    let one : pos g *ℤ pos 1 ≡ pos g = omega (arith, ints) in
    antisym a b
    (same_whole g a b (pos g *ℤ a) some (omega (arith, ints)) (let h : (pos g *ℤ a) <ℤ (pos g *ℤ (b +ℤ pos 1)) = omega (arith, ints) in h))
    (same_whole g b a (pos g *ℤ b) some (omega (arith, ints)) (let h : (pos g *ℤ b) <ℤ (pos g *ℤ (a +ℤ pos 1)) = omega (arith, ints) in h))

one_divided : (g : ℕ) (r a b : Row) → 0 < g → IsDivided g r a → IsDivided g r b → a ≡ b
one_divided g r a b some x y =
    let sides : a.coefficients ≡ b.coefficients = ext_get_or (pos 0) a.coefficients b.coefficients (x.width ∙ sym y.width)
    (λ k lt. same_product g (coefficient k a) (coefficient k b) (coefficient k r) some (x.coefficients k) (y.coefficients k)) in
    let bounds : a.bound ≡ b.bound = antisym a.bound b.bound (same_whole g a.bound b.bound r.bound some x.lower y.upper)
    (same_whole g b.bound a.bound r.bound some y.lower x.upper) in
    λ i. record { coefficients = sides i; bound = bounds i }

pub one_tightened : (r a b : Row) → IsTightened r a → IsTightened r b → a ≡ b
one_tightened r a b x y = by (cases_lt 0 x.divisor)
  where
    same : x.divisor ≡ y.divisor
    same = same_divisor x.divisor y.divisor r.coefficients x.common y.common

    by : (0 < x.divisor) ⊎ (x.divisor ≤ 0) → a ≡ b
    by (inl some) = one_divided x.divisor r a b some (x.divided some) (subst (λ g. IsDivided g r b) (sym same) (y.divided (omega (arith, same, some))))
    by (inr none) = x.none (omega arith) ∙ sym (y.none (omega (arith, same, none)))

-- A tightened row is tight.

-- what divides a tightened row divides its row with the divisor
one_left : (g n : ℕ) (r t : Row) → 0 < g → IsCommonDivisor g r.coefficients → IsDivided g r t → All (λ c. n ∣ unsigned_abs c) t.coefficients → n ∣ 1
one_left g n r t some common d all =
    let whole : g * n ∣ g = common.greatest (g * n) (All-from_get_or (λ c. g * n ∣ unsigned_abs c) r.coefficients (pos 0) each) in
    let same : g ≡ g * 1 = omega arith in
    dvd_of_mul-dvd-mul_left n some (subst (λ m. g * n ∣ m) same whole)
  where
    each : (k : ℕ) → k < length r.coefficients → g * n ∣ unsigned_abs (get_or r.coefficients k (pos 0))
    each k lt =
        let is : unsigned_abs (coefficient k r) ≡ g * unsigned_abs (coefficient k t) = ap unsigned_abs (d.coefficients k)
        ∙ unsigned_abs-mul (pos g) (coefficient k t) in
        subst (λ m. g * n ∣ m) (sym is) (mul-dvd-mul_left n g (all k (pos 0) (omega (arith, lt, d.width))))

pub tight_again : (r t : Row) → IsTightened r t → IsTightened t t
tight_again r t x = by (cases_lt 0 x.divisor)
  where
    by : (0 < x.divisor) ⊎ (x.divisor ≤ 0) → IsTightened t t
    by (inr none) = record {
      divisor = x.divisor;
      common = subst (λ row. IsCommonDivisor x.divisor row.coefficients) (sym (x.none (omega arith))) x.common;
      none = λ e. refl;
      divided = λ lt. absurd (omega (arith, lt, none));
    }
    by (inl some) = record {
      divisor = 1;
      common = record {
        divides = λ k z lt. one-dvd (unsigned_abs (get_or t.coefficients k z));
        greatest = λ n all. one_left x.divisor n r t some x.common
            (x.divided some) all;
      };
      none = λ e. refl;
      divided = λ lt. record { width = refl; coefficients = λ k. once (coefficient k t); lower = least t.bound; upper = most t.bound };
    }
      where
        once : (z : ℤ) → z ≡ pos 1 *ℤ z
        once z = omega (arith, ints)

        least : (z : ℤ) → (pos 1 *ℤ z) ≤ℤ z
        least z = omega (arith, ints)

        most : (z : ℤ) → z <ℤ (pos 1 *ℤ (z +ℤ pos 1))
        most z = omega (arith, ints)
