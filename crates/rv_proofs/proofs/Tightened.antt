-- A tightened row with exactly one coefficient has 1 or -1.
use Rattle.std.proofs.Common.{◌≡◌, ◌≢◌, ℕ, zero, ◌*◌, ◌<◌, ◌≤◌, ℤ, pos, negsuc, length, arith, refl, ap, ◌∙◌, subst, ◌⊎◌, inl, inr}
use Rattle.std.proofs.lemmas.Nat.Gcd.{dvd_refl, dvd-zero, dvd_antisymm, le_of_dvd}
use Rattle.std.proofs.{Math.Nat.mul-le-mul_left, lemmas.Int.ints, lemmas.Int.unsigned_abs-mul, lemmas.Bool.cases_lt, lemmas.Bool.cases_eq}
use Rattle.std.proofs.{lemmas.List.get_or_past, lemmas.List.Elements.All-from_get_or}
use Prim.Native.Nat.{◌∣◌}
use Rattle.std.specs.Int.RustNames.{unsigned_abs}
use Rattle.rv_rows.specs.{declared.linear.Row.Row, Rows.coefficient, Tight.IsTightened, Tight.IsCommonDivisor, Tight.IsDivided}
use Rattle.rv_proofs.specs.Boxes.{IsUnitAt, HasUnit}
use Rattle.rv_proofs.proofs.Moved.{zero_or}
use Rattle.rv_base.proofs.Numbers.{one_cases, size_zero}

not_zero : (z : ℤ) → z ≢ pos 0 → 0 < unsigned_abs z
not_zero (pos zero) n = absurd (n refl)
not_zero _ h = omega (arith, ints)

times_none : (g : ℕ) → g * unsigned_abs (pos 0) ≡ 0
times_none g = omega arith

one_of : (g a n : ℕ) → 0 < g → a ≡ g * n → a ≤ g → 0 < n → n ≡ 1
one_of g a n h e l m = go (cases_lt n 2)
  where
    go : (n < 2) ⊎ (2 ≤ n) → n ≡ 1
    go (inl less) = omega arith
    go (inr more) = let p : g * 2 ≤ g * n = mul-le-mul_left g more in absurd (omega arith)

pub tight_unit : (old new : Row) → IsTightened old new → HasUnit new
tight_unit old new t (k, ne, only) = go (cases_lt 0 t.divisor)
  where
    others : (n : ℕ) → n ≢ k → coefficient n new ≡ pos 0
    others n apart = pick (zero_or (coefficient n new))
      where
        pick : (coefficient n new ≡ pos 0) ⊎ (coefficient n new ≢ pos 0) → coefficient n new ≡ pos 0
        pick (inl e) = e
        pick (inr h) = absurd (apart (only n h))

    go : (0 < t.divisor) ⊎ (t.divisor ≤ 0) → (j : ℕ) × (IsUnitAt new j (pos 1) ⊎ IsUnitAt new j (negsuc 0))
    go (inl some) = (k, signed (one_cases (coefficient k new) one))
      where
        divided : IsDivided t.divisor old new
        divided = t.divided some

        size : unsigned_abs (coefficient k old) ≡ t.divisor * unsigned_abs (coefficient k new)
        size = ap unsigned_abs (divided.coefficients k) ∙ unsigned_abs-mul (pos t.divisor) (coefficient k new)

        each : (j : ℕ) → (j ≡ k) ⊎ (j ≢ k) → unsigned_abs (coefficient k old) ∣ unsigned_abs (coefficient j old)
        each j (inl e) = rw e (dvd_refl (unsigned_abs (coefficient k old)))
        each j (inr apart) =
            let z : unsigned_abs (coefficient j old) ≡ 0 = ap unsigned_abs (divided.coefficients j) ∙ unsigned_abs-mul (pos t.divisor) (coefficient j new)
            ∙ ap (λ (y : ℤ). t.divisor * unsigned_abs y) (others j apart) ∙ times_none t.divisor in
            rw z (dvd-zero (unsigned_abs (coefficient k old)))

        common : IsCommonDivisor t.divisor old.coefficients
        common = t.common

        one : unsigned_abs (coefficient k new) ≡ 1
        one =
            let d = common.greatest (unsigned_abs (coefficient k old))
            (All-from_get_or (λ c. unsigned_abs (coefficient k old) ∣ unsigned_abs c) old.coefficients (pos 0) (λ j l. each j (cases_eq j k))) in
            one_of t.divisor (unsigned_abs (coefficient k old)) (unsigned_abs (coefficient k new)) some size (le_of_dvd some d)
            (not_zero (coefficient k new) ne)

        signed : (coefficient k new ≡ pos 1) ⊎ (coefficient k new ≡ negsuc 0) → IsUnitAt new k (pos 1) ⊎ IsUnitAt new k (negsuc 0)
        signed (inl e) = inl (record { here = e; others = others })
        signed (inr e) = inr (record { here = e; others = others })
    go (inr none) =
        let zero_divisor : t.divisor ≡ 0 = omega arith in
        let same : new ≡ old = t.none zero_divisor in
        let common = t.common in
        absurd (ne (ap (coefficient k) same ∙ vanishes (cases_lt k (length old.coefficients)) zero_divisor))
      where
        vanishes : (k < length old.coefficients) ⊎ (length old.coefficients ≤ k) → t.divisor ≡ 0 → coefficient k old ≡ pos 0
        vanishes (inl l) e =
            let common : IsCommonDivisor t.divisor old.coefficients = t.common in
            let d : t.divisor ∣ unsigned_abs (coefficient k old) = common.divides k (pos 0) l in
            size_zero (coefficient k old) (dvd_antisymm (dvd-zero (unsigned_abs (coefficient k old)))
            (subst (λ (n : ℕ). n ∣ unsigned_abs (coefficient k old)) e d))
        vanishes (inr l) e = get_or_past old.coefficients k (pos 0) l
