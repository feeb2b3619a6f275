-- Lists: positions, appended lists, and what is contained in them.
use Rattle.std.proofs.Common.{ℕ, ◌<◌, ◌≡◌, List, length, ⊎_elim, arith, Some, slice_get, ◌≢◌, zero, suc, [], ◌∷◌, ap, ◌⊎◌, inl, inr, ◌+◌, ◌++◌, take, sym, ◌∙◌}
use Rattle.std.proofs.Common.{refl, get_or, Bool, true, false, set, subst, ◌-◌, map, drop, drop-cons, add-one}
use Rattle.std.proofs.lemmas.Option.{slice_get_cases, same_Some, slice_get_within, get_or_from_slice_get, none-some, slice_get-get_or, slice_get_read}
use Rattle.std.proofs.lemmas.List.{take_more, length-append, append_assoc, append-nil, nil_from_length, get_or_append_left, get_or-append-add, length-map}
use Rattle.std.proofs.{lemmas.Bool.cases_eq, lemmas.Bool.cases_lt, Math.Seq.get_or-append_seam}
use Rattle.std.specs.{List.Contains, List.flat_map, List.All, Prelude.IfOk, Prelude.Result, Prelude.Ok, Prelude.Err}

pub item_at : {X : Type 0} (xs : List X) (i : ℕ) → i < length xs → (x : X) × (slice_get xs i ≡ Some x)
item_at xs i low = ⊎_elim (λ (x, l, at, e). (x, at)) (λ (more, e). absurd (omega (arith, more))) (slice_get_cases xs i).1

-- a number is in a list, with its place, or it is not
pub found_or_not : (xs : List ℕ) (t : ℕ) → ((i : ℕ) × (slice_get xs i ≡ Some t)) ⊎ ((i : ℕ) → slice_get xs i ≡ Some t → ⊥)
found_or_not [] t = inr (λ i e. cc)
found_or_not (x ∷ xs) t = go (cases_eq x t) (found_or_not xs t)
  where
    go : (x ≡ t) ⊎ (x ≢ t) → ((i : ℕ) × (slice_get xs i ≡ Some t)) ⊎ ((i : ℕ) → slice_get xs i ≡ Some t → ⊥)
        → ((i : ℕ) × (slice_get (x ∷ xs) i ≡ Some t)) ⊎ ((i : ℕ) → slice_get (x ∷ xs) i ≡ Some t → ⊥)
    go (inl e) r = inl (0, ap Some e)
    go (inr ne) (inl (i, at)) = inl (suc i, at)
    go (inr ne) (inr none) = inr no
      where
        no : (i : ℕ) → slice_get (x ∷ xs) i ≡ Some t → ⊥
        no zero e = ne (same_Some x t e)
        no (suc i) e = none i e

-- one element more of a copy
pub take_push : {X : Type 0} (xs ys : List X) (i : ℕ) (x : X) → ys ≡ take i xs → slice_get xs i ≡ Some x → ys ++ x ∷ [] ≡ take (i + 1) xs
take_push xs ys i x e at =
    let l = slice_get_within xs i x at in
    ap (λ zs. zs ++ x ∷ []) e
    ∙ ap (λ y. take i xs ++ y ∷ []) (sym (get_or_from_slice_get xs i x x at)) ∙ sym (take_more xs i x l)

-- what stands in a list with one thing more at its end
pub push_cases : {X : Type 0} (xs : List X) (x y : X) (k : ℕ) → slice_get (xs ++ x ∷ []) k ≡ Some y → (slice_get xs k ≡ Some y) ⊎ ((k ≡ length xs) × (x ≡ y))
push_cases [] x y zero e = inr (refl, (let same : x ≡ y = cc in same))
push_cases [] x y (suc k) e = absurd (none-some y e)
push_cases (z ∷ xs) x y zero e = inl e
push_cases (z ∷ xs) x y (suc k) e = elim (push_cases xs x y k e) [
  | inl there ↦ inl there
  | inr last ↦ inr (ap suc last.0, last.1)
]

pub seam_at : {X : Type 0} (all ys zs : List X) (x : X) → all ≡ ys ++ (x ∷ zs) → slice_get all (length ys) ≡ Some x
seam_at all ys zs x e =
    ap (λ xs. slice_get xs (length ys)) e
    ∙ slice_get-get_or (ys ++ (x ∷ zs)) (length ys) x (omega (arith, length-append ys (x ∷ zs))) ∙ ap Some (get_or-append_seam ys x zs x)

pub seam_along : {X : Type 0} (all ys rest zs : List X) (x : X) → all ≡ ys ++ rest → rest ≡ x ∷ zs → all ≡ (ys ++ x ∷ []) ++ zs
seam_along all ys rest zs x e d = e ∙ ap (λ xs. ys ++ xs) d ∙ sym (append_assoc ys (x ∷ []) zs)

pub none_left : {X : Type 0} (all ys rest : List X) → all ≡ ys ++ rest → length rest ≡ 0 → ys ≡ all
none_left all ys rest e d = sym (e ∙ ap (λ xs. ys ++ xs) (nil_from_length rest d) ∙ append-nil ys)

pub flat_map_same : {X Y : Type 0} (f g : X → List Y) (xs : List X) → ((x : X) → Contains xs x → f x ≡ g x) → flat_map f xs ≡ flat_map g xs
flat_map_same f g [] each = refl
flat_map_same f g (x ∷ xs) each =
    let here = each x (0, omega arith, refl) in
    let more = flat_map_same f g xs (λ y w. each y (
      w.0 + 1,
      (let lt = w.1 in omega (arith, lt)),
      ap (λ k. get_or (x ∷ xs) k y)
          (let e : w.0 + 1 ≡ suc w.0 = omega arith in e) ∙ w.2,
    )) in
    λ i. here i ++ more i

pub same_next : (path : List ℕ) (x y : ℕ) (more rest : List ℕ) → path ++ x ∷ more ≡ path ++ y ∷ rest → x ≡ y
same_next [] x y more rest e = cc
same_next (z ∷ path) x y more rest e = let f : path ++ x ∷ more ≡ path ++ y ∷ rest = cc in same_next path x y more rest f

-- flags of which one is set
pub set_keeps : (xs : List Bool) (k j : ℕ) → get_or xs j false ≡ true → get_or (set xs k true) j false ≡ true
set_keeps [] k j e = e
set_keeps (x ∷ xs) zero zero e = refl
set_keeps (x ∷ xs) zero (suc j) e = e
set_keeps (x ∷ xs) (suc k) zero e = e
set_keeps (x ∷ xs) (suc k) (suc j) e = set_keeps xs k j e

-- each place holds what it held, or is the new one
pub push_got : {A : Type 0} (before : List A) (c x : A) (j : ℕ) → slice_get (before ++ c ∷ []) j ≡ Some x → ((j < length before)
    × (slice_get before j ≡ Some x)) ⊎ ((j ≡ length before) × (c ≡ x))
push_got before c x j h =
    let low : j < length (before ++ c ∷ []) = slice_get_within (before ++ c ∷ []) j x h in
    let is : get_or (before ++ c ∷ []) j x ≡ x = get_or_from_slice_get (before ++ c ∷ []) j x x h in
    ⊎_elim
    (λ lt. inl (lt, slice_get_read before (length before) j x refl lt (sym is ∙ get_or_append_left before (c ∷ []) x j lt)))
    (λ ge. let e : j ≡ length before = omega (arith, length-append before (c ∷ [])) in
    inr (e, sym (get_or-append_seam before c [] x) ∙ ap (λ (n : ℕ). get_or (before ++ c ∷ []) n x) (sym e) ∙ is))
    (cases_lt j (length before))

pub none_at : {A : Type 0} (xs : List A) (i : ℕ) (x : A) → xs ≡ [] → slice_get xs i ≡ Some x → ⊥
none_at xs i x e h =
    let low : i < length xs = slice_get_within xs i x h in
    let size : length xs ≡ 0 = ap (λ l. length l) e in
    absurd (omega arith)

-- what stands at a number is in the list
pub contains_got : {X : Type 0} (xs : List X) (k : ℕ) (x : X) → slice_get xs k ≡ Some x → Contains xs x
contains_got xs k x e = (k, slice_get_within xs k x e, get_or_from_slice_get xs k x x e)

pub within_got : {X : Type 0} (xs : List X) (k : ℕ) (x : X) → slice_get xs k ≡ Some x → k < length xs
within_got [] k x e = cc
within_got (y ∷ ys) zero x e = omega arith
within_got (y ∷ ys) (suc k) x e = let h = within_got ys k x e in omega (arith, h)

pub same_text : {A E : Type 0} (r : Result A E) (items : A → List ℕ) (x y : List ℕ) → x ≡ y → IfOk r (λ v. items v ≡ x) → IfOk r (λ v. items v ≡ y)
same_text (Ok v) items x y same h = h ∙ same
same_text (Err e) items x y same h = tt

-- what holds of a joined list holds of its first part
pub all_left : {X : Type 0} (P : X → Type 0) (xs ys : List X) → All P (xs ++ ys) → All P xs
all_left P xs ys h k d lt = subst P (get_or_append_left xs ys d k lt) (h k d (omega (arith, length-append xs ys)))

-- and of its second
pub all_right : {X : Type 0} (P : X → Type 0) (xs ys : List X) → All P (xs ++ ys) → All P ys
all_right P xs ys h k d lt = subst P (get_or-append-add xs ys k d) (h (length xs + k) d (omega (arith, length-append xs ys)))

pub get_push : {B : Type 0} (xs : List B) (v : B) → slice_get (xs ++ v ∷ []) (length xs) ≡ Some v
get_push [] v = refl
get_push (x ∷ xs) v = get_push xs v

-- one of those that a function gives is given for one of the others
pub from_map : {A B : Type 0} (g : A → B) (xs : List A) (y : B) → Contains (map g xs) y → (x : A) × Contains xs x × (g x ≡ y)
from_map g xs y h = find g xs h.0 y (subst (λ n. h.0 < n) (length-map xs g) h.1) h.2
  where
    find : {A B : Type 0} (g : A → B) (xs : List A) (i : ℕ) (y : B) → i < length xs → get_or (map g xs) i y ≡ y → (x : A) × Contains xs x × (g x ≡ y)
    find g [] i y lt is = absurd (omega arith)
    find g (x ∷ xs) zero y lt is = (x, (0, omega arith, refl), is)
    find g (x ∷ xs) (suc i) y lt is =
        let more = find g xs i y (omega arith) is in
        (more.0, (suc more.1.0, omega (arith, more.1.1), more.1.2), more.2)

-- the next element of a list that is gone through
pub next_of : {X : Type 0} (xs : List X) (i : ℕ) (x : X) → i < length xs → x ≡ get_or xs i x → drop i xs ≡ x ∷ drop (i + 1) xs
next_of xs i x lt is = drop-cons xs i x lt ∙ ap (λ y. y ∷ drop (suc i) xs) (sym is) ∙ ap (λ n. x ∷ drop n xs) (sym (add-one i))
