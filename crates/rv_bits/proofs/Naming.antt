-- Variables found by their names, and how many bits a type has.
use Rattle.std.proofs.Common.{◌≡◌, ◌⊎◌, ℕ, zero, suc, ◌+◌, ◌-◌, ◌^◌, ◌<◌, ◌≤◌, true, false, cond, nat_le, List, [], ◌∷◌, length, map, get_or, refl, sym, ◌∙◌}
use Rattle.std.proofs.Common.{ap, subst, arith, inl, inr, Some, None as Nothing}
use Rattle.std.proofs.lemmas.Bool.{and_parts, leb-true, cases_Bool}
use Rattle.std.specs.Prelude.{slice_get}
use Rattle.rv_types.specs.{Lists.Variable, Lists.Next, Variables.bits_from}
use Rattle.rv_diagram.specs.Nodes.{Valuation}
use Rattle.rv_flat.specs.Facts.{all_few}
use Rattle.rv_control.specs.Named.{same_variable, truth_at}
use Rattle.rv_agreement.proofs.Spelled.{below_power}

pub truth_first : (ys : List Variable) (x : Variable) (n : ℕ) → n < length ys → ((k : ℕ) → k < n → same_variable (get_or ys k Next) x ≡ false)
    → same_variable (get_or ys n Next) x ≡ true
    → (v : Valuation) → truth_at ys v x ≡ v n
unfolding truth_at
truth_first [] x n lt none here v = absurd (omega arith)
truth_first (y ∷ ys) x zero lt none here v = ap (λ b. cond b (v 0) (truth_at ys (λ k. v (suc k)) x)) here
truth_first (y ∷ ys) x (suc n) lt none here v =
    ap (λ b. cond b (v 0) (truth_at ys (λ k. v (suc k)) x)) (none 0 (omega arith))
    ∙ truth_first ys x n (omega arith) (λ k low. none (suc k) (omega arith)) here (λ k. v (suc k))

pub truth_none : (ys : List Variable) (x : Variable) → ((k : ℕ) → k < length ys → same_variable (get_or ys k Next) x ≡ false) → (v : Valuation)
    → truth_at ys v x ≡ false
unfolding truth_at
truth_none [] x none v = refl
truth_none (y ∷ ys) x none v = ap (λ b. cond b (v 0) (truth_at ys (λ k. v (suc k)) x)) (none 0 (omega arith))
    ∙ truth_none ys x (λ k low. none (suc k) (omega arith)) (λ k. v (suc k))

-- one bit more is needed where there are more labels than codes
bits_step : (more b count : ℕ) → nat_le count (2 ^ b) ≡ false → bits_from (suc more) b count ≡ bits_from more (b + 1) count
bits_step more b count e = ap (λ t. cond t b (bits_from more (b + 1) count)) e

pub bits_more : (count b : ℕ) → 2 ^ b < count → (b < count) × (bits_from (count - (b + 1)) (b + 1) count ≡ bits_from (count - b) b count)
bits_more count b lt =
    let low : b ≤ 2 ^ b = below_power b in
    let next : suc (count - (b + 1)) ≡ count - b = omega arith in
    let not_le : nat_le count (2 ^ b) ≡ false = not_within count (2 ^ b) lt in
    (omega arith, sym (bits_step (count - (b + 1)) b count not_le) ∙ ap (λ n. bits_from n b count) next)
  where
    not_within : (m n : ℕ) → n < m → nat_le m n ≡ false
    not_within m n below = by (cases_Bool (nat_le m n))
      where
        by : (nat_le m n ≡ true) ⊎ (nat_le m n ≡ false) → nat_le m n ≡ false
        by (inl e) = let le : m ≤ n = leb-true m n e in absurd (omega arith)
        by (inr e) = e

pub few_at : (limit : ℕ) (ls : List (List (List ℕ))) (i : ℕ) (x : List (List ℕ)) → all_few limit ls ≡ true → slice_get ls i ≡ Some x → length x ≤ limit
few_at limit [] i x few e = let bad : Nothing ≡ Some x = e in absurd (cc)
few_at limit (l ∷ ls) zero x few e =
    let h : length l ≤ limit = leb-true (length l) limit (and_parts (nat_le (length l) limit) (all_few limit ls) few).0 in
    let same : l ≡ x = cc in
    subst (λ (y : List (List ℕ)). length y ≤ limit) same h
few_at limit (l ∷ ls) (suc i) x few e = few_at limit ls i x (and_parts (nat_le (length l) limit) (all_few limit ls) few).1 e

-- what stands at a place of a list that is mapped
pub mapped_at : {A B : Type 0} (f : A → B) (xs : List A) (i : ℕ) (d : B) (x : A) → slice_get xs i ≡ Some x → get_or (map f xs) i d ≡ f x
mapped_at f [] i d x e = let bad : Nothing ≡ Some x = e in absurd (cc)
mapped_at f (y ∷ ys) zero d x e = let same : y ≡ x = cc in ap f same
mapped_at f (y ∷ ys) (suc i) d x e = mapped_at f ys i d x e

pub mapped_past : {A B : Type 0} (f : A → B) (xs : List A) (i : ℕ) (d : B) → slice_get xs i ≡ Nothing → get_or (map f xs) i d ≡ d
mapped_past f [] i d e = refl
mapped_past f (y ∷ ys) zero d e = let bad : Some y ≡ Nothing = e in absurd (cc)
mapped_past f (y ∷ ys) (suc i) d e = mapped_past f ys i d e

pub nothing_there : {A : Type 0} (xs : List A) (i : ℕ) (d : A) → slice_get xs i ≡ Nothing → get_or xs i d ≡ d
nothing_there [] i d e = refl
nothing_there (y ∷ ys) zero d e = let bad : Some y ≡ Nothing = e in absurd (cc)
nothing_there (y ∷ ys) (suc i) d e = nothing_there ys i d e
