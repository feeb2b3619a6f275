-- Lists: what they contain, what a function gives of joined lists, and the numbers of names.
use Rattle.std.proofs.Common.{◌≡◌, ℕ, zero, suc, ◌+◌, ◌<◌, inl, inr, Bool, true, false, cond, not, ◌||◌, ◌&&◌, List, [], ◌∷◌, ◌++◌, map, length, get_or, refl}
use Rattle.std.proofs.Common.{sym, ◌∙◌, ap, arith, Some}
use Rattle.std.proofs.lemmas.Bool.{and_parts, and_from, or_parts, or_from}
use Rattle.std.specs.{List.Contains, List.flat_map, Prelude.slice_get}
use Rattle.rv_types.specs.Variables.{total}
use Rattle.rv_tree.specs.Places.{Identifier, is_same, is_among, index_of}
use Rattle.rv_types.proofs.{Members.cons_cases, Members.in_tail, Members.nothing_in, Members.text_itself, DifferentPlaces.total_append}

-- a list with one element has no other
pub only_one : {X : Type 0} (x y : X) → Contains (x ∷ []) y → x ≡ y
only_one x y w = elim (cons_cases x [] y w) [ inl e ↦ e | inr v ↦ nothing_in y v ]

-- what gives nothing of each element gives nothing of the list
pub none_of_each : {X Y : Type 0} (f : X → List Y) (xs : List X) → ((x : X) → Contains xs x → f x ≡ []) → flat_map f xs ≡ []
none_of_each f [] each = refl
none_of_each f (x ∷ xs) each =
    ap (λ ys. ys ++ flat_map f xs) (each x (0, omega arith, refl)) ∙ none_of_each f xs (λ y w. each y (in_tail x xs y w))

pub flat_map_map : {X Y Z : Type 0} (f : Y → List Z) (g : X → Y) (xs : List X) → flat_map f (map g xs) ≡ flat_map (λ x. f (g x)) xs
flat_map_map f g [] = refl
flat_map_map f g (x ∷ xs) = ap (λ ys. f (g x) ++ ys) (flat_map_map f g xs)

-- Names.

pub among_push : (xs : List Identifier) (y x : Identifier) → is_among (xs ++ y ∷ []) x ≡ (is_among xs x || is_same y x)
among_push [] y x = tested (is_same y x)
  where
    tested : (b : Bool) → (b || false) ≡ b
    tested true = refl
    tested false = refl
among_push (z ∷ zs) y x = ap (λ b. is_same z x || b) (among_push zs y x) ∙ grouped (is_same z x) (is_among zs x) (is_same y x)
  where
    grouped : (a b c : Bool) → (a || (b || c)) ≡ ((a || b) || c)
    grouped true b c = refl
    grouped false b c = refl

-- the number of a name that stands in the front, or only at the end
pub index_in_front : (xs : List Identifier) (y x : Identifier) → is_among xs x ≡ true → index_of (xs ++ y ∷ []) x ≡ index_of xs x
index_in_front [] y x e = cc
index_in_front (z ∷ zs) y x e = tested (is_same z x) e (index_in_front zs y x)
  where
    tested : (b : Bool) → (b || is_among zs x) ≡ true → (is_among zs x ≡ true → index_of (zs ++ y ∷ []) x ≡ index_of zs x)
        → cond b 0 (index_of (zs ++ y ∷ []) x + 1) ≡ cond b 0 (index_of zs x + 1)
    tested true e again = refl
    tested false e again = ap (λ k. k + 1) (again e)

pub index_at_end : (xs : List Identifier) (x : Identifier) → is_among xs x ≡ false → index_of (xs ++ x ∷ []) x ≡ length xs
index_at_end [] x e = ap (λ b. cond b 0 1) (text_itself x)
index_at_end (z ∷ zs) x e = tested (is_same z x) e (index_at_end zs x)
  where
    tested : (b : Bool) → (b || is_among zs x) ≡ false → (is_among zs x ≡ false → index_of (zs ++ x ∷ []) x ≡ length zs)
        → cond b 0 (index_of (zs ++ x ∷ []) x + 1) ≡ suc (length zs)
    tested true e again = cc
    tested false e again = let h = again e in omega (arith, h)

-- whether no name stands after another, nor after one of some that come before
abbrev pub are_apart : List Identifier → List Identifier → Bool
are_apart before [] = true
are_apart before (x ∷ xs) = not (is_among before x) && are_apart (x ∷ before) xs

pub apart_push : (before xs : List Identifier) (x : Identifier) → are_apart before xs ≡ true → is_among before x ≡ false → is_among xs x ≡ false
    → are_apart before (xs ++ x ∷ []) ≡ true
apart_push before [] x all outside other = ap (λ b. not b && true) outside
apart_push before (y ∷ ys) x all outside other =
    let a = and_parts (not (is_among before y)) (are_apart (y ∷ before) ys) all in
    let o = or_parts (is_same y x) (is_among ys x) other in
    and_from (not (is_among before y)) (are_apart (y ∷ before) (ys ++ x ∷ [])) a.0
    (apart_push (y ∷ before) ys x a.1 (or_from (is_same y x) (is_among before x) o.0 outside) o.1)

pub both_none : {X : Type 0} (xs ys : List X) → xs ≡ [] → ys ≡ [] → xs ++ ys ≡ []
both_none xs ys e f = ap (λ zs. zs ++ ys) e ∙ f

-- what all elements of a list are stands at each place, and a default past its end
pub each_at : {X : Type 0} (x : X) (xs : List X) (k : ℕ) → ((y : X) → Contains xs y → y ≡ x) → k < length xs → slice_get xs k ≡ Some x
each_at x [] k each lt = absurd (omega (arith, lt))
each_at x (y ∷ ys) zero each lt = ap (λ z. Some z) (each y (0, omega arith, refl))
each_at x (y ∷ ys) (suc k) each lt = each_at x ys k (λ z w. each z (in_tail y ys z w)) (omega (arith, lt))

pub each_or : {X : Type 0} (x : X) (xs : List X) (k : ℕ) → ((y : X) → Contains xs y → y ≡ x) → get_or xs k x ≡ x
each_or x [] k each = refl
each_or x (y ∷ ys) zero each = each y (0, omega arith, refl)
each_or x (y ∷ ys) (suc k) each = each_or x ys k (λ z w. each z (in_tail y ys z w))

-- the elements of a mapped list
pub each_mapped : {X Y : Type 0} (f : X → Y) (z : Y) (xs : List X) → ((x : X) → Contains xs x → f x ≡ z) → (y : Y) → Contains (map f xs) y → y ≡ z
each_mapped f z [] each y w = nothing_in y w
each_mapped f z (x ∷ xs) each y w = elim (cons_cases (f x) (map f xs) y w) [
  | inl e ↦ sym e ∙ each x (0, omega arith, refl)
  | inr v ↦ each_mapped f z xs (λ u h. each u (in_tail x xs u h)) y v
]

-- the sum over joined lists, of which each has none
pub total_flat : {X Y : Type 0} (f : Y → ℕ) (g : X → List Y) (xs : List X) → ((x : X) → Contains xs x → total f (g x) ≡ 0) → total f (flat_map g xs) ≡ 0
total_flat f g [] each = refl
total_flat f g (x ∷ xs) each =
    let h = each x (0, omega arith, refl) in
    let t = total_flat f g xs (λ y w. each y (in_tail x xs y w)) in
    let s = total_append f (g x) (flat_map g xs) in
    omega (arith, s, h, t)

pub length_total : {X : Type 0} (xs : List X) → length xs ≡ total (λ (x : X). 1) xs
length_total [] = refl
length_total (x ∷ xs) = let h = length_total xs in omega (arith, h)
