-- Lists whose elements are told apart by a key.
use Rattle.std.proofs.Common.{◌≡◌, inl, inr, ℕ, suc, ◌<◌, List, [], ◌∷◌, ◌++◌, map, flat_map, length, get_or, sym, ◌∙◌, ap, arith}
use Rattle.std.proofs.lemmas.List.Elements.{Contains-append_cases}
use Rattle.std.specs.List.{Contains}
use Rattle.rv_types.proofs.Members.{at_head, in_tail, of_flat_map}
use Rattle.rv_base.proofs.Lists.{from_map}

-- no two of them have one key
abbrev pub IsApart : {X K : Type 0} (key : X → K) → List X → Type 0
IsApart key [] = Unit {0}
IsApart {X = X} key (x ∷ xs) = ((y : X) → Contains xs y → key x ≡ key y → ⊥) × IsApart key xs

-- where no two numbers have one key
pub apart_told : {X K : Type 0} (key : X → K) (xs : List X) → ((i j : ℕ) (d : X) → i < j → j < length xs → key (get_or xs i d) ≡ key (get_or xs j d) → ⊥)
    → IsApart key xs
apart_told key [] h = tt
apart_told {X = X} key (x ∷ xs) h = (first, apart_told key xs (λ i j d lt less. h (suc i) (suc j) d (omega (arith, lt)) (omega (arith, less))))
  where
    first : (y : X) → Contains xs y → key x ≡ key y → ⊥
    first y w e = h 0 (suc w.0) y (omega arith) (omega (arith, w.1)) (e ∙ ap key (sym w.2))

-- by a key that tells no more
pub apart_by : {X J K : Type 0} (key : X → K) (other : X → J) (xs : List X) → ((x y : X) → Contains xs x → Contains xs y → other x ≡ other y → key x ≡ key y)
    → IsApart key xs → IsApart other xs
apart_by key other [] h p = tt
apart_by key other (x ∷ xs) h p =
    (λ y w e. p.0 y w (h x y (at_head x xs) (in_tail x xs y w) e), apart_by key other xs (λ y z v w. h y z (in_tail x xs y v) (in_tail x xs z w)) p.1)

pub apart_map : {X Y K : Type 0} (key : Y → K) (g : X → Y) (xs : List X) → IsApart (λ x. key (g x)) xs → IsApart key (map g xs)
apart_map key g [] p = tt
apart_map {X = X} {Y = Y} key g (x ∷ xs) p = (first, apart_map key g xs p.1)
  where
    first : (y : Y) → Contains (map g xs) y → key (g x) ≡ key y → ⊥
    first y w e = let r = from_map g xs y w in p.0 r.0 r.1 (e ∙ ap key (sym r.2))

-- of two lists one after the other
apart_both : {X K : Type 0} (key : X → K) (xs ys : List X) → IsApart key xs → IsApart key ys
    → ((x y : X) → Contains xs x → Contains ys y → key x ≡ key y → ⊥) → IsApart key (xs ++ ys)
apart_both key [] ys p q cross = q
apart_both {X = X} key (x ∷ xs) ys p q cross = (first, apart_both key xs ys p.1 q (λ a b v w. cross a b (in_tail x xs a v) w))
  where
    first : (y : X) → Contains (xs ++ ys) y → key x ≡ key y → ⊥
    first y w e = elim (Contains-append_cases xs ys y w) [ inl v ↦ p.0 y v e | inr v ↦ cross x y (at_head x xs) v e ]

-- of the lists of elements that are apart themselves
pub apart_flat : {X Y J K : Type 0} (outer : X → J) (key : Y → K) (g : X → List Y) (xs : List X) → IsApart outer xs
    → ((x : X) → Contains xs x → IsApart key (g x))
    → ((x y : X) (a b : Y) → Contains xs x → Contains xs y → Contains (g x) a → Contains (g y) b → key a ≡ key b → outer x ≡ outer y)
    → IsApart key (flat_map g xs)
apart_flat outer key g [] p own cross = tt
apart_flat {Y = Y} outer key g (x ∷ xs) p own cross =
    apart_both key (g x) (flat_map g xs) (own x (at_head x xs))
    (apart_flat outer key g xs p.1 (λ y w. own y (in_tail x xs y w)) (λ y z a b v w. cross y z a b (in_tail x xs y v) (in_tail x xs z w))) between
  where
    between : (a b : Y) → Contains (g x) a → Contains (flat_map g xs) b → key a ≡ key b → ⊥
    between a b v w e =
        let r = of_flat_map g xs b w in
        p.0 r.0 r.1 (cross x r.0 a b (at_head x xs) (in_tail x xs r.0 r.1) v r.2 e)
