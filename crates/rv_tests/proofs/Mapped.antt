-- What stands in a list that is made of another, element by element.
use Rattle.std.proofs.Common.{◌≡◌, ℕ, zero, suc, ◌<◌, List, [], ◌∷◌, map, length, get_or, refl, arith}
use Rattle.std.specs.List.{Contains}

module _ {X Y : Type 0} (f : X → Y) (y : Y) where
  at_number : (xs : List X) (k : ℕ) → k < length (map f xs) → get_or (map f xs) k y ≡ y → (x : X) × Contains xs x × (f x ≡ y)
  at_number [] k lt e = absurd (omega (arith, lt))
  at_number (x ∷ xs) zero lt e = (x, (0, omega arith, refl), e)
  at_number (x ∷ xs) (suc k) lt e =
      let r = at_number xs k (omega (arith, lt)) e in
      (r.0, (suc r.1.0, (let less = r.1.1 in omega (arith, less)), r.1.2), r.2)

  pub of_map : (xs : List X) → Contains (map f xs) y → (x : X) × Contains xs x × (f x ≡ y)
  of_map xs w = at_number xs w.0 w.1 w.2
