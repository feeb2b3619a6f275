-- Lists in which each element stands in a relation to all after it.
use Rattle.std.proofs.Common.{ℕ, zero, suc, ◌<◌, inl, inr, List, [], ◌∷◌, ◌++◌, flat_map, length, get_or, arith, subst}
use Rattle.std.proofs.lemmas.List.Elements.{Contains-get_or, Contains-append_cases}
use Rattle.std.specs.List.{Contains}
use Rattle.rv_types.proofs.Members.{at_head, in_tail, of_flat_map}

module _ {X : Type 0} (Before : X → X → Type 0) where
  abbrev pub AreInOrder : List X → Type 0
  AreInOrder [] = Unit {0}
  AreInOrder (x ∷ xs) = ((y : X) → Contains xs y → Before x y) × AreInOrder xs

  pub in_order_append : (xs ys : List X) → AreInOrder xs → AreInOrder ys → ((x y : X) → Contains xs x → Contains ys y → Before x y) → AreInOrder (xs ++ ys)
  in_order_append [] ys p q across = q
  in_order_append (x ∷ xs) ys p q across = (
    λ y w. elim (Contains-append_cases xs ys y w) [ inl here ↦ p.0 y here | inr there ↦ across x y (at_head x xs) there ],
    in_order_append xs ys p.1 q (λ a b w v. across a b (in_tail x xs a w) v),
  )

  pub in_order_at : (xs : List X) → AreInOrder xs → (j k : ℕ) (x : X) → j < k → k < length xs → Before (get_or xs j x) (get_or xs k x)
  in_order_at [] p j k x less lt = absurd (omega (arith, lt))
  in_order_at (y ∷ ys) p j zero x less lt = absurd (omega (arith, less))
  in_order_at (y ∷ ys) p zero (suc k) x less lt = p.0 (get_or ys k x) (Contains-get_or ys k x (omega (arith, lt)))
  in_order_at (y ∷ ys) p (suc j) (suc k) x less lt = in_order_at ys p.1 j k x (omega (arith, less)) (omega (arith, lt))

  pub in_order_from : (xs : List X) → ((j k : ℕ) (x : X) → j < k → k < length xs → Before (get_or xs j x) (get_or xs k x)) → AreInOrder xs
  in_order_from [] each = tt
  in_order_from (x ∷ xs) each = (
    λ y w. let lt = w.1 in subst (Before x) w.2 (each 0 (suc w.0) y (omega arith) (omega (arith, lt))),
    in_order_from xs (λ j k y less lt. each (suc j) (suc k) y (omega (arith, less)) (omega (arith, lt))),
  )

-- lists one after the other, of things in order
pub in_order_flat : {X Y : Type 0} (Before : X → X → Type 0) (First : Y → Y → Type 0) (f : Y → List X) → ((a : Y) → AreInOrder Before (f a))
    → ((a b : Y) → First a b → (x y : X) → Contains (f a) x → Contains (f b) y → Before x y) → (ys : List Y) → AreInOrder First ys
    → AreInOrder Before (flat_map f ys)
in_order_flat Before First f each across [] p = tt
in_order_flat Before First f each across (a ∷ ys) p =
    in_order_append Before (f a) (flat_map f ys) (each a) (in_order_flat Before First f each across ys p.1)
    (λ x y w v. let b = of_flat_map f ys y v in across a b.0 (p.0 b.0 b.1) x y w b.2)
