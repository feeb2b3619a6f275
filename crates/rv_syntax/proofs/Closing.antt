-- Where a comment is closed.
use Rattle.std.proofs.Common.{◌≡◌, ℕ, zero, suc, ◌+◌, ◌<◌, ◌≤◌, Bool, true, false, cond, List, [], ◌∷◌, length, take, drop, get_or, refl, sym, ap, ◌∙◌, subst}
use Rattle.std.proofs.Common.{inl, inr, arith, drop-cons, add-one}
use Rattle.std.proofs.lemmas.Bool.{cases_Bool, and_left, and_right, ne_eqb, cond-true, cond-false}
use Rattle.std.proofs.lemmas.List.{length-drop}
use Rattle.std.specs.Prelude.{Option, Some, None, ◌==◌, ◌&&◌}
use Rattle.rv_syntax.specs.Lexing.{is_first, one_later, close_len}

-- a length from so many bytes further on
abbrev pub later : ℕ → Option ℕ → Option ℕ
later n None = None
later n (Some m) = Some (n + m)

later-one : (n : ℕ) (o : Option ℕ) → later n (one_later o) ≡ later (n + 1) o
later-one n None = refl
later-one n (Some m) = let e : n + (m + 1) ≡ (n + 1) + m = omega arith in ap (λ k. Some k) e

-- what stands at a place
split : (bytes : List ℕ) (at : ℕ) → at + 1 < length bytes → drop at bytes ≡ get_or bytes at 0 ∷ get_or bytes (at + 1) 0 ∷ drop (at + 2) bytes
split bytes at h =
    let here : at < length bytes = omega arith in
    let two : suc (at + 1) ≡ at + 2 = omega arith in
    drop-cons bytes at 0 here
    ∙ ap (λ n. get_or bytes at 0 ∷ drop n bytes) (sym (add-one at))
    ∙ ap (λ l. get_or bytes at 0 ∷ l) (drop-cons bytes (at + 1) 0 h)
    ∙ ap (λ n. get_or bytes at 0 ∷ get_or bytes (at + 1) 0 ∷ drop n bytes) two

after : (bytes : List ℕ) (at : ℕ) → at + 1 < length bytes → get_or bytes (at + 1) 0 ∷ drop (at + 2) bytes ≡ drop (at + 1) bytes
after bytes at h =
    let two : at + 2 ≡ suc (at + 1) = omega arith in
    ap (λ n. get_or bytes (at + 1) 0 ∷ drop n bytes) two ∙ sym (drop-cons bytes (at + 1) 0 h)

goes-on : (c : ℕ) (bytes : List ℕ) (at : ℕ) → at + 1 < length bytes → (get_or bytes at 0 == 42 && get_or bytes (at + 1) 0 == c) ≡ false
    → later at (close_len c (drop at bytes)) ≡ later (at + 1) (close_len c (drop (at + 1) bytes))
goes-on c bytes at h e =
    ap (λ l. later at (close_len c l)) (split bytes at h)
    ∙ ap (later at) (cond-false (get_or bytes at 0 == 42 && get_or bytes (at + 1) 0 == c) (Some 2)
    (one_later (close_len c (get_or bytes (at + 1) 0 ∷ drop (at + 2) bytes))) e)
    ∙ later-one at (close_len c (get_or bytes (at + 1) 0 ∷ drop (at + 2) bytes))
    ∙ ap (λ l. later (at + 1) (close_len c l)) (after bytes at h)

-- no `*` here, or not followed by the byte
pub not-star : (c : ℕ) (bytes : List ℕ) (at : ℕ) → at + 1 < length bytes → (get_or bytes at 0 ≡ 42 → ⊥)
    → later at (close_len c (drop at bytes)) ≡ later (at + 1) (close_len c (drop (at + 1) bytes))
not-star c bytes at h n = goes-on c bytes at h (and_left (get_or bytes at 0 == 42) (get_or bytes (at + 1) 0 == c) (ne_eqb (get_or bytes at 0) 42 n))

pub not-last : (c : ℕ) (bytes : List ℕ) (at : ℕ) → at + 1 < length bytes → (get_or bytes (at + 1) 0 ≡ c → ⊥)
    → later at (close_len c (drop at bytes)) ≡ later (at + 1) (close_len c (drop (at + 1) bytes))
not-last c bytes at h n = goes-on c bytes at h (and_right (get_or bytes at 0 == 42) (get_or bytes (at + 1) 0 == c) (ne_eqb (get_or bytes (at + 1) 0) c n))

none-last : (c b : ℕ) → close_len c (b ∷ []) ≡ None
none-last c b = cond-false (b == 42 && false) (Some 2) None (and_right (b == 42) false refl)

short-none : (c : ℕ) (l : List ℕ) → length l ≤ 1 → close_len c l ≡ None
short-none c [] h = refl
short-none c (b ∷ []) h = none-last c b
short-none c (b ∷ d ∷ ds) h = absurd (omega arith)

pub ends-none : (c : ℕ) (bytes : List ℕ) (at : ℕ) → length bytes ≤ at + 1 → later at (close_len c (drop at bytes)) ≡ None
ends-none c bytes at h = ap (later at) (short-none c (drop at bytes) (omega (arith, length-drop at bytes)))

-- The closer is within the text.
abbrev IsWithin : Option ℕ → ℕ → Type 0
IsWithin None l = Unit {0}
IsWithin (Some n) l = n ≤ l

later-within : (o : Option ℕ) (l : ℕ) → IsWithin o l → IsWithin (one_later o) (suc l)
later-within None l h = tt
later-within (Some n) l h = omega arith

pick-within : (t : Bool) (o : Option ℕ) (l : ℕ) → 2 ≤ l → IsWithin o l → IsWithin (cond t (Some 2) o) l
pick-within true o l h g = h
pick-within false o l h g = g

close-within : (c : ℕ) (bs : List ℕ) → IsWithin (close_len c bs) (length bs)
close-within c [] = tt
close-within c (b ∷ []) = subst (λ o. IsWithin o (length (b ∷ []))) (sym (none-last c b)) tt
close-within c (b ∷ d ∷ ds) =
    pick-within (b == 42 && d == c) (one_later (close_len c (d ∷ ds))) (length (b ∷ d ∷ ds)) (omega arith)
    (later-within (close_len c (d ∷ ds)) (length (d ∷ ds)) (close-within c (d ∷ ds)))

pub close-fits : (c : ℕ) (bs : List ℕ) (n : ℕ) → close_len c bs ≡ Some n → n ≤ length bs
close-fits c bs n h = subst (λ o. IsWithin o (length bs)) h (close-within c bs)

-- A longer front has the same closer.
later-some : (o : Option ℕ) (n : ℕ) → one_later o ≡ Some n → (p : ℕ) × (o ≡ Some p) × (p + 1 ≡ n)
later-some None n h = cc
later-some (Some q) n h = (q, refl, cc)

first-take : (c b d : ℕ) (ds : List ℕ) (n m : ℕ) → (b == 42 && d == c) ≡ true → Some 2 ≡ Some n → n ≤ m → close_len c (take m (b ∷ d ∷ ds)) ≡ Some n
first-take c b d ds n (suc (suc m)) e s h = cond-true (b == 42 && d == c) (Some 2) (one_later (close_len c (d ∷ take m ds))) e ∙ s
first-take c b d ds n _ e s h = let two : 2 ≡ n = cc in absurd (omega arith)

next-take : (c b d : ℕ) (ds : List ℕ) (p n m : ℕ) → (b == 42 && d == c) ≡ false → close_len c (take m (d ∷ ds)) ≡ Some p → p + 1 ≡ n
    → close_len c (b ∷ take m (d ∷ ds)) ≡ Some n
next-take c b d ds p n zero e s h = cc
next-take c b d ds p n (suc m) e s h =
    cond-false (b == 42 && d == c) (Some 2) (one_later (close_len c (d ∷ take m ds))) e ∙ ap one_later s ∙ ap (λ k. Some k) h

abbrev IsPositive : Option ℕ → Type 0
IsPositive None = Unit {0}
IsPositive (Some n) = 1 ≤ n

later-positive : (o : Option ℕ) → IsPositive (one_later o)
later-positive None = tt
later-positive (Some n) = omega arith

pick-positive : (t : Bool) (o : Option ℕ) → IsPositive o → IsPositive (cond t (Some 2) o)
pick-positive true o h = omega arith
pick-positive false o h = h

close-positive : (c : ℕ) (bs : List ℕ) → IsPositive (close_len c bs)
close-positive c [] = tt
close-positive c (b ∷ bs) = pick-positive (b == 42 && is_first c bs) (one_later (close_len c bs)) (later-positive (close_len c bs))

some-close : (c : ℕ) (bs : List ℕ) (n : ℕ) → close_len c bs ≡ Some n → 1 ≤ n
some-close c bs n h = subst IsPositive h (close-positive c bs)

pub close-take : (c : ℕ) (bs : List ℕ) (n m : ℕ) → close_len c bs ≡ Some n → n ≤ m → close_len c (take m bs) ≡ Some n
close-take c [] n m h l = cc
close-take c (b ∷ []) n m h l = let e : None ≡ Some n = sym (none-last c b) ∙ h in cc
close-take c (b ∷ d ∷ ds) n zero h l = absurd (omega (arith, some-close c (b ∷ d ∷ ds) n h))
close-take c (b ∷ d ∷ ds) n (suc m) h l =
    elim (cases_Bool (b == 42 && d == c)) [
      | inl e ↦ first-take c b d ds n (suc m) e (sym (cond-true (b == 42 && d == c) (Some 2) (one_later (close_len c (d ∷ ds))) e) ∙ h) l
      | inr e ↦
          let x = later-some (close_len c (d ∷ ds)) n (sym (cond-false (b == 42 && d == c) (Some 2) (one_later (close_len c (d ∷ ds))) e) ∙ h) in
          let le : x.0 ≤ m = omega (arith, x.2) in
          next-take c b d ds x.0 n m e (close-take c (d ∷ ds) x.0 m x.1 le) x.2
    ]
