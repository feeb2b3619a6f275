-- Records that are compared field by field.
use Rattle.std.proofs.Common.{◌≡◌, ◌+◌, ◌<◌, ℕ, zero, suc, true, false, List, [], ◌∷◌, length, get_or, map, refl, sym, ap, ◌∙◌, subst, arith, add-one}
use Rattle.std.proofs.{lemmas.List.length-map, lemmas.Bool.false_from_ne_true}
use Rattle.std.specs.{Prelude.◌&&◌, Str.bytes_eq}
use Rattle.rv_invfile.specs.Texts.{same_fields}
use Rattle.rv_invfile.proofs.Decimals.{same-bytes, bytes-same}
use Rattle.rv_base.proofs.Truths.{both_of}

pub same-row : (x y : List (List ℕ)) → x ≡ y → same_fields x y ≡ true
same-row x y e = subst (λ z. same_fields x z ≡ true) e (own x)
  where
    own : (x : List (List ℕ)) → same_fields x x ≡ true
    own [] = refl
    own (f ∷ fs) = ap (λ b. b && same_fields fs fs) (same-bytes f f refl) ∙ own fs

pub row-same : (x y : List (List ℕ)) → same_fields x y ≡ true → x ≡ y
row-same [] [] e = refl
row-same [] (g ∷ gs) e = cc
row-same (f ∷ fs) [] e = cc
row-same (f ∷ fs) (g ∷ gs) e =
    let p = both_of (bytes_eq f g) (same_fields fs gs) e in ap (λ z. z ∷ fs) (bytes-same f g p.0) ∙ ap (λ z. g ∷ z) (row-same fs gs p.1)

pub other-field : (x y : List (List ℕ)) (i : ℕ) → (get_or x i [] ≡ get_or y i [] → ⊥) → same_fields x y ≡ false
other-field x y i h = false_from_ne_true (same_fields x y) (λ e. h (ap (λ z. get_or z i []) (row-same x y e)))

-- as long, and each field the same
pub all-same : (x y : List (List ℕ)) → length x ≡ length y → ((i : ℕ) → i < length x → get_or x i [] ≡ get_or y i []) → same_fields x y ≡ true
all-same x y l h = same-row x y (each-same x y l h)
  where
    each-same : (x y : List (List ℕ)) → length x ≡ length y → ((i : ℕ) → i < length x → get_or x i [] ≡ get_or y i []) → x ≡ y
    each-same [] [] l h = refl
    each-same [] (g ∷ gs) l h = absurd (omega arith)
    each-same (f ∷ fs) [] l h = absurd (omega arith)
    each-same (f ∷ fs) (g ∷ gs) l h = ap (λ z. z ∷ fs) (h 0 (omega arith)) ∙ ap (λ z. g ∷ z) (each-same fs gs (omega arith) (λ i k. h (suc i) (omega arith)))

-- ---- The texts of a list.
pub text-at : {A : Type 0} (f : A → List ℕ) (xs : List A) (k : ℕ) (x : A) → k < length xs → x ≡ get_or xs k x → get_or (map f xs) k [] ≡ f x
text-at f [] k x l e = absurd (omega arith)
text-at f (y ∷ ys) zero x l e = ap f (sym e)
text-at f (y ∷ ys) (suc k) x l e = text-at f ys k x (omega arith) e

next-field : (w : List ℕ) (m : List (List ℕ)) (i : ℕ) → get_or (w ∷ m) (i + 1) [] ≡ get_or m i []
next-field w m i = ap (λ k. get_or (w ∷ m) k []) (add-one i)

pub later-differ : {A : Type 0} (f : A → List ℕ) (x : List (List ℕ)) (w : List ℕ) (xs : List A) (i : ℕ) (a : A) → i < length xs → a ≡ get_or xs i a
    → (get_or x (i + 1) [] ≡ f a → ⊥) → same_fields x (w ∷ map f xs) ≡ false
later-differ f x w xs i a l e h = other-field x (w ∷ map f xs) (i + 1) (λ s. h (s ∙ next-field w (map f xs) i ∙ text-at f xs i a l e))

pub texts-same : {A : Type 0} (f : A → List ℕ) (x : List (List ℕ)) (xs : List A) → length x ≡ length xs
    → ((k : ℕ) → k < length xs → get_or x k [] ≡ get_or (map f xs) k []) → same_fields x (map f xs) ≡ true
texts-same f x xs l h = all-same x (map f xs) (omega (arith, length-map xs f)) (λ i k. h i (omega arith))

pub later-same : {A : Type 0} (f : A → List ℕ) (x : List (List ℕ)) (w : List ℕ) (xs : List A) → length x ≡ length xs + 1 → get_or x 0 [] ≡ w
    → ((k : ℕ) → k < length xs → get_or x (k + 1) [] ≡ get_or (map f xs) k []) → same_fields x (w ∷ map f xs) ≡ true
later-same {A = A} f x w xs l z h = all-same x (w ∷ map f xs) (omega (arith, length-map xs f)) (each x w xs l z h)
  where
    each : (x : List (List ℕ)) (w : List ℕ) (xs : List A) → length x ≡ length xs + 1 → get_or x 0 [] ≡ w
        → ((k : ℕ) → k < length xs → get_or x (k + 1) [] ≡ get_or (map f xs) k []) → (i : ℕ) → i < length x → get_or x i [] ≡ get_or (w ∷ map f xs) i []
    each x w xs l z h zero k = z
    each x w xs l z h (suc i) k = ap (λ j. get_or x j []) (sym (add-one i)) ∙ h i (omega arith)

pub text-get : {A : Type 0} (f : A → List ℕ) (xs : List A) (k : ℕ) (d : A) → k < length xs → get_or (map f xs) k [] ≡ f (get_or xs k d)
text-get f [] k d l = absurd (omega arith)
text-get f (y ∷ ys) zero d l = refl
text-get f (y ∷ ys) (suc k) d l = text-get f ys k d (omega arith)
