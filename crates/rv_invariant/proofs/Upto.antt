-- What the first groups of a record say.
use Rattle.std.proofs.Common.{◌≡◌, ◌+◌, ◌<◌, ◌≤◌, ℕ, zero, suc, Bool, true, false, List, [], ◌∷◌, ◌++◌, length, take, get_or, refl, sym, ap, ◌∙◌, arith, eqb}
use Rattle.std.proofs.Common.{add-one}
use Rattle.std.proofs.lemmas.Bool.{eqb-true, eqb-false}
use Rattle.std.proofs.lemmas.List.{get_or_append_left, get_or_push, length_push, take_more, take_all}
use Rattle.rv_invfile.specs.Rules.{Fields}
use Rattle.rv_invariant.specs.Groups.{upto}

module _ {A : Type 0} (item : Fields → ℕ → A) (r : Fields) where
  pub upto-none : upto item r zero ≡ []
  upto-none = refl

  pub upto-suc : (k : ℕ) → upto item r (suc k) ≡ upto item r k ++ item r k ∷ []
  upto-suc k = refl

  -- one more
  pub upto-more : (k : ℕ) → upto item r (k + 1) ≡ upto item r k ++ item r k ∷ []
  upto-more k = ap (upto item r) (add-one k) ∙ upto-suc k

  pub upto-length : (k : ℕ) → length (upto item r k) ≡ k
  upto-length zero = ap length upto-none
  upto-length (suc k) = ap length (upto-suc k) ∙ length_push (upto item r k) (item r k) ∙ omega (arith, upto-length k)

  at-by : (k i : ℕ) (d : A) (b : Bool) → eqb i k ≡ b → i < suc k → (i < k → get_or (upto item r k) i d ≡ item r i) → get_or (upto item r (suc k)) i d ≡ item r i
  at-by k i d true e l h =
      let same = eqb-true i k e in
      ap (λ xs. get_or xs i d) (upto-suc k) ∙ get_or_push (upto item r k) (item r k) d i (upto-length k ∙ sym same) ∙ ap (item r) (sym same)
  at-by k i d false e l h =
      let less : i < k = omega (arith, eqb-false i k e) in
      let room : i < length (upto item r k) = omega (arith, upto-length k) in
      ap (λ xs. get_or xs i d) (upto-suc k) ∙ get_or_append_left (upto item r k) (item r k ∷ []) d i room ∙ h less

  -- what it says at a place
  pub upto-at : (k i : ℕ) (d : A) → i < k → get_or (upto item r k) i d ≡ item r i
  upto-at zero i d l = absurd (omega (arith, l))
  upto-at (suc k) i d l = at-by k i d (eqb i k) refl l (λ less. upto-at k i d less)

  -- a list of such items is what the groups say
  upto-take : (xs : List A) (d : A) → ((k : ℕ) → k < length xs → item r k ≡ get_or xs k d) → (n : ℕ) → n ≤ length xs → upto item r n ≡ take n xs
  upto-take xs d h zero l = upto-none
  upto-take xs d h (suc n) l =
      upto-suc n ∙ ap (λ ys. ys ++ item r n ∷ []) (upto-take xs d h n (omega arith)) ∙ ap (λ x. take n xs ++ x ∷ []) (h n (omega arith))
      ∙ sym (take_more xs n d (omega arith)) ∙ ap (λ k. take k xs) (add-one n)

  pub upto-is : (xs : List A) (d : A) → ((k : ℕ) → k < length xs → item r k ≡ get_or xs k d) → (n : ℕ) → n ≡ length xs → upto item r n ≡ xs
  upto-is xs d h n e = upto-take xs d h n (omega (arith, e)) ∙ take_all n xs (omega (arith, e))
