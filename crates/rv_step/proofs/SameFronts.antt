-- Two lists with one front are ordered by their last elements.
use Rattle.std.proofs.Common.{◌≡◌, ℕ, Bool, true, false, cond, nat_lt, nat_eq, List, [], ◌∷◌, ◌++◌, refl, ◌∙◌, ap, arith}
use Rattle.std.proofs.lemmas.Bool.Decides.{nat_tests}
use Rattle.std.specs.{Cmp.Lexicographic.slice_cmp, Ordering.nat_cmp, Ordering.is_lt, Ordering.ordering_then, declared.cmp.Ordering.Ordering}
use Rattle.std.specs.{declared.cmp.Ordering.TheVariants.Less, declared.cmp.Ordering.TheVariants.Equal, declared.cmp.Ordering.TheVariants.Greater}

-- nothing comes after the last ones
last_alone : (less same : Bool) → is_lt (ordering_then (cond less Less (cond same Equal Greater)) Equal) ≡ less
last_alone true same = refl
last_alone false true = refl
last_alone false false = refl

-- a number is itself
itself : (x : ℕ) → nat_cmp x x ≡ Equal
itself x =
    let less : nat_lt x x ≡ false = grind (arith, nat_tests) in
    let same : nat_eq x x ≡ true = grind (arith, nat_tests) in
    ap (λ (b : Bool). cond b Less (cond (nat_eq x x) Equal Greater)) less ∙ ap (λ (b : Bool). cond b Equal Greater) same

-- lists with one front
pub by_last : (front : List ℕ) (x y : ℕ) → is_lt (slice_cmp nat_cmp (front ++ x ∷ []) (front ++ y ∷ [])) ≡ nat_lt x y
by_last [] x y = last_alone (nat_lt x y) (nat_eq x y)
by_last (z ∷ front) x y = ap (λ (o : Ordering). is_lt (ordering_then o (slice_cmp nat_cmp (front ++ x ∷ []) (front ++ y ∷ [])))) (itself z) ∙ by_last front x y
