-- The tightened row of a row is one.
use Rattle.std.proofs.Common.{◌≡◌, ◌⊎◌, inl, inr, ℕ, zero, suc, ◌+◌, ◌*◌, ◌/◌, ◌%◌, ◌<◌, ◌≤◌, ℤ, pos, negsuc, ◌+ℤ◌, ◌*ℤ◌, ◌≤ℤ◌, ◌<ℤ◌, Bool, true, false, cond}
use Rattle.std.proofs.Common.{nat_eq, List, [], ◌∷◌, map, length, get_or, refl, sym, ◌∙◌, ap, arith}
use Rattle.std.proofs.lemmas.List.Elements.{All-nil, All-cons, All-head, All-tail, All-weaker}
use Rattle.std.proofs.{Math.Nat.dvd_trans, Math.Nat.dvd-zero, Math.IntN.*ℤ-zero, lemmas.Int.ints, lemmas.Bool.cases_lt, lemmas.Bool.eqb-true}
use Rattle.std.proofs.{lemmas.Nat.Gcd.IsGcd-from_zero, lemmas.Nat.Gcd.IsGcd-from_mod, lemmas.List.length-map, lemmas.List.get_or_past, lemmas.List.get_or-map}
use Prim.Native.Nat.{◌∣◌}
use borrow.Author.Differences.{up, down, product_is, at_most_in, sum_is_lem}
use Rattle.std.specs.{Int.IsGcd, Int.RustNames.unsigned_abs}
use Rattle.rv_rows.specs.{declared.linear.Row.Row, Tight.IsCommonDivisor, Tight.IsDivided, Tight.IsTightened}
use Rattle.rv_rows.proofs.TightLemmas.{exact_quotient}
use Rattle.rv_control.specs.Tightening.{gcd_within, common, quotient, divided, tightened}

gcd_is : (n a b : ℕ) → b < n → IsGcd a b (gcd_within n a b)
unfolding gcd_within
gcd_is zero a b lt = absurd (omega arith)
gcd_is (suc n) a zero lt = IsGcd-from_zero a 0 refl
gcd_is (suc n) a (suc b) lt =
    let less : a % suc b < suc b = omega arith in
    IsGcd-from_mod a (suc b) (gcd_within n (suc b) (a % suc b)) (gcd_is n (suc b) (a % suc b) (omega arith))

common_is : (cs : List ℤ) → IsCommonDivisor (common cs) cs
unfolding common
common_is [] = record { divides = All-nil (λ c. 0 ∣ unsigned_abs c); greatest = λ d e. dvd-zero d }
common_is (c ∷ cs) =
    let rest = common_is cs in
    let g = gcd_within (suc (common cs)) (unsigned_abs c) (common cs) in
    let both = gcd_is (suc (common cs)) (unsigned_abs c) (common cs) (omega arith) in
    record {
      divides = All-cons (λ z. g ∣ unsigned_abs z) c cs both.0
          (All-weaker (λ z. common cs ∣ unsigned_abs z) (λ z. g ∣ unsigned_abs z) (λ z h. dvd_trans g both.1 h) cs rest.divides);
      greatest = λ d e. both.2 d (All-head (λ z. d ∣ unsigned_abs z) c cs e) (rest.greatest d (All-tail (λ z. d ∣ unsigned_abs z) c cs e));
    }

lower : (z : ℤ) (g : ℕ) → 0 < g → (pos g *ℤ quotient z g) ≤ℤ z
unfolding quotient
lower (pos n) g some = let e : g * (n / g) + n % g ≡ n = omega arith in let p = product_is (pos g) (pos (n / g)) in at_most_in _ _ (omega arith)
lower (negsuc n) g some =
    let e : g * (n / g) + n % g ≡ n = omega arith in
    let m : n % g < g = omega arith in
    let p = product_is (pos g) (negsuc (n / g)) in
    let q : g * suc (n / g) ≡ g * (n / g) + g = omega arith in
    at_most_in _ _ (omega arith)

upper : (z : ℤ) (g : ℕ) → 0 < g → z <ℤ (pos g *ℤ (quotient z g +ℤ pos 1))
unfolding quotient
upper (pos n) g some =
    let e : g * (n / g) + n % g ≡ n = omega arith in
    let m : n % g < g = omega arith in
    let p = product_is (pos g) (pos (n / g) +ℤ pos 1) in
    let q : g * (n / g + 1) ≡ g * (n / g) + g = omega arith in
    let h : (pos n +ℤ pos 1) ≤ℤ (pos g *ℤ (pos (n / g) +ℤ pos 1)) = at_most_in _ _ (omega arith) in
    omega (arith, ints)
upper (negsuc n) g some =
    let e : g * (n / g) + n % g ≡ n = omega arith in
    let w = negsuc (n / g) +ℤ pos 1 in
    let p = product_is (pos g) w in
    let s = sum_is_lem (negsuc (n / g)) (pos 1) in
    let l : up w + n / g ≡ down w = omega arith in
    let q : g * (up w + n / g) ≡ g * down w = ap (λ k. g * k) l in
    let o = sum_is_lem (negsuc n) (pos 1) in
    let h : (negsuc n +ℤ pos 1) ≤ℤ (pos g *ℤ w) = at_most_in _ _ (omega arith) in
    omega (arith, ints)

column : (cs : List ℤ) (g : ℕ) → 0 < g → IsCommonDivisor g cs → (k : ℕ) → (k < length cs) ⊎ (length cs ≤ k)
    → get_or cs k (pos 0) ≡ pos g *ℤ get_or (map (λ c. quotient c g) cs) k (pos 0)
column cs g some is k (inl lt) =
    exact_quotient g (get_or cs k (pos 0)) (quotient (get_or cs k (pos 0)) g) some (is.divides k (pos 0) lt)
    (lower (get_or cs k (pos 0)) g some) (upper (get_or cs k (pos 0)) g some)
    ∙ ap (λ z. pos g *ℤ z) (sym (get_or-map (λ c. quotient c g) cs k (pos 0) (pos 0) lt))
column cs g some is k (inr past) =
    get_or_past cs k (pos 0) past ∙ sym (ap (λ z. pos g *ℤ z) (get_or_past (map (λ c. quotient c g) cs) k (pos 0) (rw length-map past)) ∙ *ℤ-zero (pos g))

divided_is : (r : Row) (g : ℕ) → 0 < g → IsCommonDivisor g r.coefficients → IsDivided g r (divided g r)
divided_is r g some is = record {
  width = length-map r.coefficients (λ c. quotient c g);
  coefficients = λ k. column r.coefficients g some is k (cases_lt k (length r.coefficients));
  lower = lower r.bound g some;
  upper = upper r.bound g some;
}

pub tightened_is : (r : Row) → IsTightened r (tightened r)
unfolding tightened
tightened_is r = by (nat_eq (common r.coefficients) 0) refl
  where
    by : (b : Bool) → nat_eq (common r.coefficients) 0 ≡ b → IsTightened r (cond b r (divided (common r.coefficients) r))
    by true e =
        let none : common r.coefficients ≡ 0 = eqb-true (common r.coefficients) 0 e in
        record { divisor = common r.coefficients; common = common_is r.coefficients; none = λ z. refl; divided = λ lt. absurd (omega arith) }
    by false e = record {
      divisor = common r.coefficients;
      common = common_is r.coefficients;
      none = λ z. absurd (not_none z e);
      divided = λ lt. divided_is r (common r.coefficients) lt (common_is r.coefficients);
    }
      where
        not_none : common r.coefficients ≡ 0 → nat_eq (common r.coefficients) 0 ≡ false → ⊥
        not_none z e = let h : nat_eq 0 0 ≡ false = (λ i. nat_eq (sym z i) 0) ∙ e in let bad : true ≡ false = h in absurd (grind arith)
