-- Points with one number changed, and sums over the first columns.
use Rattle.std.proofs.Common.{◌≡◌, ◌≢◌, ◌⊎◌, ◌<◌, ◌∙◌, ℕ, zero, suc, ℤ, pos, ◌+ℤ◌, ◌*ℤ◌, List, [], ◌∷◌, length, take, set, ap, sym, subst, refl, arith, inl}
use Rattle.std.proofs.Common.{inr}
use Rattle.std.proofs.lemmas.List.{length-set, get_or-set_same, get_or-set_other}
use Rattle.std.proofs.{Math.IntN.*ℤ-zero, Math.IntN.zero-*ℤ, lemmas.Int.ints, lemmas.Bool.cases_eq}
use Rattle.rv_rows.specs.{Rows.dot, Forms.number}
use Rattle.rv_ends.specs.Intervals.{Interval, IsInside, IsWithin, interval_at}

none_plus : (a : ℤ) → a +ℤ pos 0 ≡ pos 0 +ℤ a
none_plus a = omega (arith, ints)

plus_assoc : (a b c : ℤ) → a +ℤ (b +ℤ c) ≡ (a +ℤ b) +ℤ c
plus_assoc a b c = omega (arith, ints)

-- the sum over one column more
pub dot_more : (cs xs : List ℤ) (k : ℕ) → dot (take (suc k) cs) xs ≡ dot (take k cs) xs +ℤ (number k cs *ℤ number k xs)
dot_more [] xs zero = rw (zero-*ℤ (number 0 xs)) refl
dot_more [] xs (suc k) = rw (zero-*ℤ (number (suc k) xs)) refl
dot_more (c ∷ cs) [] zero = rw (*ℤ-zero c) refl
dot_more (c ∷ cs) [] (suc k) = rw (*ℤ-zero (number k cs)) refl
dot_more (c ∷ cs) (x ∷ xs) zero = none_plus (c *ℤ x)
dot_more (c ∷ cs) (x ∷ xs) (suc k) =
    ap (λ (z : ℤ). (c *ℤ x) +ℤ z) (dot_more cs xs k) ∙ plus_assoc (c *ℤ x) (dot (take k cs) xs) (number k cs *ℤ number k xs)

-- a later column does not count
pub dot_set : (cs xs : List ℤ) (k : ℕ) (x : ℤ) → dot (take k cs) (set xs k x) ≡ dot (take k cs) xs
dot_set [] xs zero x = refl
dot_set [] xs (suc k) x = refl
dot_set (c ∷ cs) xs zero x = refl
dot_set (c ∷ cs) [] (suc k) x = refl
dot_set (c ∷ cs) (y ∷ xs) (suc k) x = ap (λ (z : ℤ). (c *ℤ y) +ℤ z) (dot_set cs xs k x)

-- the sum with the last column changed
pub dot_changed : (cs xs : List ℤ) (k : ℕ) (x : ℤ) → k < length xs → dot (take (suc k) cs) (set xs k x) ≡ dot (take k cs) xs +ℤ (number k cs *ℤ x)
dot_changed cs xs k x low =
    dot_more cs (set xs k x) k ∙ ap (λ (z : ℤ). z +ℤ (number k cs *ℤ number k (set xs k x))) (dot_set cs xs k x)
    ∙ ap (λ (z : ℤ). dot (take k cs) xs +ℤ (number k cs *ℤ z)) (get_or-set_same xs k x (pos 0) low)

-- a point of the box with one number changed
pub within_changed : (box : List Interval) (point : List ℤ) (k : ℕ) (x : ℤ) → IsWithin box point → IsInside (interval_at box k) x
    → IsWithin box (set point k x)
within_changed box point k x w inside = record {
  size = length-set point k x ∙ w.size;
  each = λ j low. go j low (cases_eq j k);
}
  where
    go : (j : ℕ) → j < length box → (j ≡ k) ⊎ (j ≢ k) → IsInside (interval_at box j) (number j (set point k x))
    go j low (inl e) =
        let size : length point ≡ length box = w.size in
        let short : k < length point = omega (arith, low, e, size) in
        subst (λ (n : ℕ). IsInside (interval_at box n) (number n (set point k x))) (sym e)
        (subst (λ (z : ℤ). IsInside (interval_at box k) z) (sym (get_or-set_same point k x (pos 0) short)) inside)
    go j low (inr apart) = subst (λ (z : ℤ). IsInside (interval_at box j) z) (sym (get_or-set_other point k j x (pos 0) apart)) (w.each j low)
