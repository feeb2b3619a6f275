-- The fields of a row.
use Rattle.std.proofs.Common.{◌≡◌, ◌+◌, ◌^◌, ◌<◌, ◌≤◌, ◌∙◌, ℕ, zero, suc, true, false, cond, List, length, refl, arith, ap, subst, below_more}
use Rattle.std.proofs.lemmas.Bool.{leb-true, ne_eqb}
use Rattle.std.specs.Prelude.{◌||◌, nat_eq, nat_le, ℤ, Some, None, FitsSigned}
use Rattle.std.specs.{Fmt.signed_decimal, Int.w128, Int.RustNames.unsigned_abs, Str.bytes_eq}
use Rattle.rv_rows.proofs.IntLemmas.{fits_below}
use Rattle.rv_invfile.specs.{Rules.Fields, Rules.first_bad, Forms.field, Texts.whole}
use Rattle.rv_invfile.proofs.Instants.{none-bad, one-bad}
use Rattle.rv_invariant.specs.{Groups.upto, Pieces.coefficient_at, Pieces.is_row_field, Pieces.is_within, Pieces.row_of}
use Rattle.rv_base.proofs.Truths.{both_of}

module _ (r : Fields) where
  pub number-test : (k : ℕ) → is_row_field r (k + 2) ≡ is_within (2 ^ 30) (field r (k + 2))
  number-test k =
      ap (λ b. b || is_within (cond (nat_eq (k + 2) 1) (2 ^ 60) (2 ^ 30)) (field r (k + 2))) (ne_eqb (k + 2) 0 (λ z. omega (arith, z)))
      ∙ ap (λ b. is_within (cond b (2 ^ 60) (2 ^ 30)) (field r (k + 2))) (ne_eqb (k + 2) 1 (λ z. omega (arith, z)))

  word-right : (k : ℕ) → k < 1 → is_row_field r k ≡ true
  word-right zero l = refl
  word-right (suc k) l = absurd (omega (arith, l))

  pub bound-wrong : 2 ≤ length r → is_within (2 ^ 60) (field r 1) ≡ false → first_bad (is_row_field r) 0 (length r) ≡ Some 1
  bound-wrong l h = one-bad (is_row_field r) 0 (length r) 1 (omega arith) (omega arith) word-right h

  pub first-two : is_within (2 ^ 60) (field r 1) ≡ true → (k : ℕ) → k < 2 → is_row_field r k ≡ true
  first-two h zero l = refl
  first-two h (suc zero) l = h
  first-two h (suc (suc k)) l = absurd (omega (arith, l))

  pub number-wrong : (k : ℕ) → k + 2 < length r → ((i : ℕ) → i < k + 2 → is_row_field r i ≡ true) → is_within (2 ^ 30) (field r (k + 2)) ≡ false
      → first_bad (is_row_field r) 0 (length r) ≡ Some (k + 2)
  number-wrong k l a h = one-bad (is_row_field r) 0 (length r) (k + 2) (omega arith) (omega (arith, l)) a (number-test k ∙ h)

  pub numbers-more : (k n : ℕ) → n ≡ k + 1 → ((i : ℕ) → i < k + 2 → is_row_field r i ≡ true) → is_within (2 ^ 30) (field r (k + 2)) ≡ true → (i : ℕ) → i < n + 2
      → is_row_field r i ≡ true
  numbers-more k n e a h =
      let sum : (k + 2) + 1 ≡ n + 2 = omega (arith, e) in
      subst (λ m. (i : ℕ) → i < m → is_row_field r i ≡ true) sum (below_more _ _ a (number-test k ∙ h))

  pub row-is : (memories : ℕ) (cs : List ℤ) (b : ℤ) → cs ≡ upto coefficient_at r memories → b ≡ whole (field r 1)
      → record { coefficients = cs; bound = b } ≡ row_of memories r
  row-is memories cs b e h = λ i. record { coefficients = e i; bound = h i }

  pub all-right : (n : ℕ) → length r ≡ n + 2 → ((i : ℕ) → i < n + 2 → is_row_field r i ≡ true) → first_bad (is_row_field r) 0 (length r) ≡ None
  all-right n l a = none-bad (is_row_field r) 0 (length r) (λ k h. a k (omega (arith, h, l)))

-- what a text within a limit writes is held
pub fits-within : (limit : ℕ) (text : List ℕ) (z : ℤ) → limit < 2 ^ 110 → is_within limit text ≡ true → z ≡ whole text → FitsSigned w128 z
fits-within limit text z l h e =
    let size = unsigned_abs (whole text) in
    let small = leb-true size limit (both_of (bytes_eq text (signed_decimal (whole text))) (nat_le size limit) h).1 in
    let same = ap unsigned_abs e in
    fits_below z (omega (arith, same, small, l))
