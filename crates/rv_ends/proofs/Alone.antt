-- Rows with one column, as bounds of it.
use Rattle.std.proofs.Common.{◌≡◌, ◌≢◌, ◌⊎◌, ◌↔◌, ◌<◌, ◌≤◌, ◌∙◌, ℕ, zero, suc, ℤ, pos, negsuc, ◌+ℤ◌, ◌-ℤ◌, ◌*ℤ◌, ◌≤ℤ◌, ◌<ℤ◌, Bool, true, false, List, [], ◌∷◌}
use Rattle.std.proofs.Common.{length, ap, sym, subst}
use Rattle.std.proofs.Common.{refl, arith, inl, inr}
use Rattle.std.proofs.{Math.IntN.*ℤ-zero, Math.IntN.zero-*ℤ, lemmas.Int.ints, lemmas.Bool.cases_eq, lemmas.Bool.cases_lt, lemmas.List.get_or_past}
use Rattle.std.specs.Prelude.{MatchBool}
use Rattle.rv_rows.specs.{declared.linear.Row.Row, Rows.dot, Rows.coefficient, Forms.number}
use Rattle.rv_proofs.specs.Boxes.{HasOneColumn, IsUnitAt}
use Rattle.rv_ends.specs.Columns.{IsOnlyColumn, HoldsAlone, IsFit, sided}

dot_zeros : (cs xs : List ℤ) → ((n : ℕ) → number n cs ≡ pos 0) → dot cs xs ≡ pos 0
dot_zeros [] xs h = refl
dot_zeros (c ∷ cs) [] h = refl
dot_zeros (c ∷ cs) (x ∷ xs) h =
    let e : c ≡ pos 0 = h 0 in
    let r : dot cs xs ≡ pos 0 = dot_zeros cs xs (λ n. let g : number (suc n) (c ∷ cs) ≡ pos 0 = h (suc n) in g) in
    rw (e, r, zero-*ℤ x) refl

dot_unit : (cs : List ℤ) (k : ℕ) (c : ℤ) (xs : List ℤ) → number k cs ≡ c → ((n : ℕ) → n ≢ k → number n cs ≡ pos 0) → dot cs xs ≡ c *ℤ number k xs
dot_unit [] k c xs h others = let e : pos 0 ≡ c = h in rw (sym e) (sym (zero-*ℤ (number k xs)))
dot_unit (a ∷ cs) k c [] h others = sym (*ℤ-zero c)
dot_unit (a ∷ cs) zero c (x ∷ xs) h others =
    let e : a ≡ c = h in
    let r : dot cs xs ≡ pos 0 = dot_zeros cs xs (λ n. others (suc n) (λ (q : suc n ≡ 0). omega arith)) in
    rw (e, r) (plus_none (c *ℤ x))
  where
    plus_none : (z : ℤ) → z +ℤ pos 0 ≡ z
    plus_none z = omega (arith, ints)
dot_unit (a ∷ cs) (suc k) c (x ∷ xs) h others =
    let e : a ≡ pos 0 = others 0 (λ (q : 0 ≡ suc k). omega arith) in
    let r : dot cs xs ≡ c *ℤ number k xs = dot_unit cs k c xs h (λ n ne. others (suc n) (λ (q : suc n ≡ suc k). ne (omega arith))) in
    rw (e, r, zero-*ℤ x) (none_plus (c *ℤ number k xs))
  where
    none_plus : (z : ℤ) → pos 0 +ℤ z ≡ z
    none_plus z = omega (arith, ints)

-- a row with one column has it
pub only_has_one : (r : Row) (k : ℕ) → IsOnlyColumn r k → HasOneColumn r
only_has_one r k only = (k, only.here, λ n ne. go n ne (cases_eq n k))
  where
    go : (n : ℕ) → coefficient n r ≢ pos 0 → (n ≡ k) ⊎ (n ≢ k) → n ≡ k
    go n ne (inl e) = e
    go n ne (inr apart) = absurd (ne (only.others n apart))

-- and it is one of those that there are
pub only_known : (r : Row) (k columns : ℕ) → IsOnlyColumn r k → IsFit columns r → k < columns
only_known r k columns only fit = go (cases_lt k (length r.coefficients))
  where
    go : (k < length r.coefficients) ⊎ (length r.coefficients ≤ k) → k < columns
    go (inl low) = let n : length r.coefficients ≤ columns = fit.narrow in omega (arith, low, n)
    go (inr high) = absurd (only.here (get_or_past r.coefficients k (pos 0) high))

unit_here : (r : Row) (j k : ℕ) (c : ℤ) → c ≢ pos 0 → IsOnlyColumn r k → IsUnitAt r j c → coefficient k r ≡ c
unit_here r j k c some only u = go (cases_eq j k)
  where
    go : (j ≡ k) ⊎ (j ≢ k) → coefficient k r ≡ c
    go (inl e) = ap (λ (n : ℕ). coefficient n r) (sym e) ∙ u.here
    go (inr apart) = absurd (some (sym u.here ∙ only.others j apart))

-- the coefficient is 1 or -1
signed : (r : Row) (k columns : ℕ) → IsOnlyColumn r k → IsFit columns r → (coefficient k r ≡ pos 1) ⊎ (coefficient k r ≡ negsuc 0)
signed r k columns only fit = go (fit.unit (only_has_one r k only))
  where
    go : (j : ℕ) × (IsUnitAt r j (pos 1) ⊎ IsUnitAt r j (negsuc 0)) → (coefficient k r ≡ pos 1) ⊎ (coefficient k r ≡ negsuc 0)
    go (j, inl u) = inl (unit_here r j k (pos 1) (λ (q : pos 1 ≡ pos 0). omega (arith, ints)) only u)
    go (j, inr u) = inr (unit_here r j k (negsuc 0) (λ (q : negsuc 0 ≡ pos 0). omega (arith, ints)) only u)

sided_value : (b : Bool) (c x d : ℤ) → ((c ≡ pos 1) ⊎ (c ≡ negsuc 0)) → MatchBool b (pos 0 <ℤ c) (c ≤ℤ pos 0) → d ≡ c *ℤ x → d ≡ sided b x
sided_value true c x d (inl e) m is = is ∙ ap (λ (z : ℤ). z *ℤ x) e ∙ once x
  where
    once : (x : ℤ) → pos 1 *ℤ x ≡ x
    once x = omega (arith, ints)
sided_value true c x d (inr e) m is = absurd (clash c e m)
  where
    clash : (c : ℤ) → c ≡ negsuc 0 → pos 0 <ℤ c → ⊥
    clash c e l = omega (arith, ints)
sided_value false c x d (inl e) m is = absurd (clash c e m)
  where
    clash : (c : ℤ) → c ≡ pos 1 → c ≤ℤ pos 0 → ⊥
    clash c e l = omega (arith, ints)
sided_value false c x d (inr e) m is = is ∙ ap (λ (z : ℤ). z *ℤ x) e ∙ minus x
  where
    minus : (x : ℤ) → negsuc 0 *ℤ x ≡ pos 0 -ℤ x
    minus x = omega (arith, ints)

-- such a row holds where the number of its column, or the opposite, is at most its bound
pub alone_iff : (r : Row) (k columns : ℕ) (b : Bool) (point : List ℤ) → IsOnlyColumn r k → IsFit columns r
    → MatchBool b (pos 0 <ℤ coefficient k r) (coefficient k r ≤ℤ pos 0) → (sided b (number k point) ≤ℤ r.bound) ↔ HoldsAlone r point
alone_iff r k columns b point only fit m =
    let d : dot r.coefficients point ≡ sided b (number k point) =
    sided_value b (coefficient k r) (number k point) (dot r.coefficients point) (signed r k columns only fit) m
    (dot_unit r.coefficients k (coefficient k r) point refl only.others) in (
      λ h one. subst (λ (z : ℤ). z ≤ℤ r.bound) (sym d) h,
      λ h. subst (λ (z : ℤ). z ≤ℤ r.bound) d (h (only_has_one r k only)),
    )
