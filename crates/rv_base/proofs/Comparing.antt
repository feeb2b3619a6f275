-- How two lists compare from a place on.
use Rattle.std.proofs.Common.{◌≡◌, ◌≢◌, ℕ, suc, ◌+◌, ◌<◌, ◌≤◌, List, [], ◌∷◌, length, drop, get_or, refl, sym, ◌∙◌, ap, Some, None, slice_get, add-one}
use Rattle.std.proofs.Common.{drop-cons, inl, inr}
use Rattle.std.proofs.{lemmas.List.drop_all, lemmas.Option.slice_get_within, lemmas.Option.get_or_from_slice_get, lemmas.Option.slice_get_cases}
use Rattle.std.specs.declared.cmp.Ordering.TheVariants.{Less, Equal, Greater}
use Rattle.std.specs.{Cmp.Lexicographic.slice_cmp, Ordering.nat_cmp, Ordering.ordering_then, declared.cmp.Ordering.Ordering}

-- an element stands before what is left behind it
pub drop-some : (xs : List ℕ) (k x : ℕ) → slice_get xs k ≡ Some x → drop k xs ≡ x ∷ drop (k + 1) xs
drop-some xs k x h =
    let within = slice_get_within xs k x h in
    let is : get_or xs k 0 ≡ x = get_or_from_slice_get xs k x 0 h in
    rw (add-one) (drop-cons xs k 0 within ∙ ap (λ y. y ∷ drop (suc k) xs) is)

-- past the end nothing is left
pub drop-none : (xs : List ℕ) (k : ℕ) → slice_get xs k ≡ None → drop k xs ≡ []
drop-none xs k h = elim (slice_get_cases xs k).1 [ inl w ↦ absurd (let e : Some w.0 ≡ None = sym w.2 ∙ h in cc) | inr w ↦ drop_all k xs w.0 ]

-- the first one ends, and the second goes on
pub first-ends : (xs ys : List ℕ) (k : ℕ) → slice_cmp nat_cmp (drop k xs) (drop k ys) ≡ slice_cmp nat_cmp xs ys → length xs ≤ k → k < length ys
    → Less ≡ slice_cmp nat_cmp xs ys
first-ends xs ys k same a b = sym (let F : List ℕ → List ℕ → Ordering = slice_cmp nat_cmp in ap (λ v. F v (drop k ys)) (drop_all k xs a)
    ∙ ap (F []) (drop-cons ys k 0 b)) ∙ same

-- the second one ends
pub second-ends : (xs ys : List ℕ) (k x : ℕ) → slice_cmp nat_cmp (drop k xs) (drop k ys) ≡ slice_cmp nat_cmp xs ys → slice_get xs k ≡ Some x
    → slice_get ys k ≡ None → Greater ≡ slice_cmp nat_cmp xs ys
second-ends xs ys k x same a b = sym (let F : List ℕ → List ℕ → Ordering = slice_cmp nat_cmp in ap (λ v. F v (drop k ys)) (drop-some xs k x a)
    ∙ ap (F (x ∷ drop (k + 1) xs)) (drop-none ys k b)) ∙ same

-- both go on: the elements here decide, and then what is left
pub both-go-on : (xs ys : List ℕ) (k x y : ℕ) → slice_cmp nat_cmp (drop k xs) (drop k ys) ≡ slice_cmp nat_cmp xs ys → slice_get xs k ≡ Some x
    → slice_get ys k ≡ Some y
    → ordering_then (nat_cmp x y) (slice_cmp nat_cmp (drop (k + 1) xs) (drop (k + 1) ys)) ≡ slice_cmp nat_cmp xs ys
both-go-on xs ys k x y same a b = sym (let F : List ℕ → List ℕ → Ordering = slice_cmp nat_cmp in ap (λ v. F v (drop k ys)) (drop-some xs k x a)
    ∙ ap (F (x ∷ drop (k + 1) xs)) (drop-some ys k y b)) ∙ same

-- equal elements leave it to the rest
pub equal-here : (o rest whole : Ordering) → o ≡ Equal → ordering_then o rest ≡ whole → rest ≡ whole
equal-here o rest whole e h = ap (λ v. ordering_then v rest) (sym e) ∙ h

-- elements that differ decide
pub decided-here : (o rest whole : Ordering) → (o ≢ Equal) → ordering_then o rest ≡ whole → o ≡ whole
decided-here Equal rest whole n h = absurd (n refl)
decided-here _ rest whole n h = h
