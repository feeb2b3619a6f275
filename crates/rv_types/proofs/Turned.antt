-- The declarations so far, the last of them first.
use Rattle.std.proofs.Common.{◌≡◌, ℕ, ◌+◌, ◌<◌, ◌≤◌, List, [], ◌∷◌, ◌++◌, map, reverse, take, drop, length, get_or, sym, ap, ◌∙◌, arith, add-one}
use Rattle.std.proofs.Math.Seq.{take-suc}
use Rattle.std.proofs.lemmas.List.{reverse-append, reverse-reverse, take-append-drop, length-reverse, length-take-le, length-map, get_or-map}

-- one more of them
pub one_turned : {A : Type 0} (xs : List A) (k : ℕ) (x : A) → k < length xs → x ≡ get_or xs k x → reverse (take (k + 1) xs) ≡ x ∷ reverse (take k xs)
one_turned xs k x h e = rw (add-one) (ap reverse (take-suc xs k x h) ∙ reverse-append (take k xs) (get_or xs k x ∷ [])
    ∙ ap (λ y. y ∷ reverse (take k xs)) (sym e))

-- those so far and those to come are all
pub all_turned : {A : Type 0} (xs : List A) (k : ℕ) → xs ≡ reverse (reverse (take k xs)) ++ drop k xs
all_turned xs k = sym (ap (λ ys. ys ++ drop k xs) (reverse-reverse (take k xs)) ∙ take-append-drop k xs)

pub turned-length : {A : Type 0} (xs : List A) (k : ℕ) → k ≤ length xs → length (reverse (take k xs)) ≡ k
turned-length xs k h = length-reverse (take k xs) ∙ length-take-le k xs h

-- one more of what is made of them
pub one_mapped : {A B : Type 0} (f : A → B) (xs : List A) (k : ℕ) (x : A) → k < length xs → x ≡ get_or xs k x
    → reverse (take (k + 1) (map f xs)) ≡ f x ∷ reverse (take k (map f xs))
one_mapped f xs k x h e = one_turned (map f xs) k (f x) (let n = length-map xs f in omega (arith, n, h)) (ap f e ∙ sym (get_or-map f xs k x (f x) h))
