-- A rising list is known by its members.
use Rattle.std.proofs.Common.{◌≡◌, ◌⊎◌, inl, inr, ℕ, suc, ◌<◌, List, [], ◌∷◌, length, map, get_or, refl, sym, subst, arith}
use Rattle.std.proofs.lemmas.List.{length-map, get_or-map, get_or_default}
use Rattle.std.specs.List.{Contains}
use Rattle.rv_tree.specs.Places.{Sites}
use Rattle.rv_types.specs.{Lists.AreRising, Needs.IsBefore}
use Rattle.rv_types.proofs.{Members.at_head, Members.cons_cases, Members.in_tail, Members.nothing_in, PlaceOrders.not_both}

module _ (A : Type 0) (Before : A → A → Type 0) where
  -- Each element stands before those after it.
  abbrev pub AreSorted : List A → Type 0
  AreSorted [] = Unit {0}
  AreSorted (x ∷ xs) = ((y : A) → Contains xs y → Before x y) × AreSorted xs

  -- the same by numbers
  pub sorted_by : (xs : List A) → ((j k : ℕ) (d : A) → j < k → k < length xs → Before (get_or xs j d) (get_or xs k d)) → AreSorted xs
  sorted_by [] rising = tt
  sorted_by (x ∷ xs) rising = (
    λ y w. subst (Before x) w.2 (rising 0 (suc w.0) y (omega arith) (omega (arith, w.1))),
    sorted_by xs (λ j k d less lt. rising (suc j) (suc k) d (omega arith) (omega arith)),
  )

  module _ (once : (x y : A) → Before x y → Before y x → ⊥) where
    -- Two sorted lists with the same members are one list.
    pub one_sorted : (xs ys : List A) → AreSorted xs → AreSorted ys → ((z : A) → Contains xs z → Contains ys z) → ((z : A) → Contains ys z → Contains xs z)
        → xs ≡ ys
    one_sorted [] [] p q to from = refl
    one_sorted [] (y ∷ ys) p q to from = nothing_in y (from y (at_head y ys))
    one_sorted (x ∷ xs) [] p q to from = nothing_in x (to x (at_head x xs))
    one_sorted (x ∷ xs) (y ∷ ys) p q to from =
        let same = heads (cons_cases y ys x (to x (at_head x xs))) (cons_cases x xs y (from y (at_head y ys))) in
        λ i. same i ∷ one_sorted xs ys p.1 q.1
        (λ z w. later y ys z (cons_cases y ys z (to z (in_tail x xs z w))) (subst (λ u. Before u z) same (p.0 z w)))
        (λ z w. later x xs z (cons_cases x xs z (from z (in_tail y ys z w))) (subst (λ u. Before u z) (sym same) (q.0 z w))) i
      where
        heads : (y ≡ x) ⊎ Contains ys x → (x ≡ y) ⊎ Contains xs y → x ≡ y
        heads (inl is) other = sym is
        heads (inr w) (inl is) = is
        heads (inr w) (inr v) = absurd (once x y (p.0 y v) (q.0 x w))

        later : (u : A) (us : List A) (z : A) → (u ≡ z) ⊎ Contains us z → Before u z → Contains us z
        later u us z (inl is) before = absurd (let here = subst (Before u) (sym is) before in once u u here here)
        later u us z (inr w) before = w

-- a list with rising places is sorted by them
pub rising_sorted : {A : Type 0} (place : A → Sites) (xs : List A) → AreRising (map place xs) → AreSorted A (λ x y. IsBefore (place x) (place y)) xs
rising_sorted {A = A} place xs rising = sorted_by A (λ x y. IsBefore (place x) (place y)) xs
    (λ j k d less lt.
    let long = length-map xs place in
    subst (λ p. IsBefore p (place (get_or xs k d))) (get_or-map place xs j d [] (omega (arith, less, lt)))
    (subst (IsBefore (get_or (map place xs) j [])) (get_or-map place xs k d [] lt) (rising j k less (omega (arith, long, lt)))))

-- Two lists with rising places and the same members are one list.
pub one_rising : {A : Type 0} (place : A → Sites) (xs ys : List A) → AreRising (map place xs) → AreRising (map place ys)
    → ((z : A) → Contains xs z → Contains ys z)
    → ((z : A) → Contains ys z → Contains xs z) → xs ≡ ys
one_rising {A = A} place xs ys p q to from =
    one_sorted A (λ x y. IsBefore (place x) (place y)) (λ x y. not_both (place x) (place y)) xs ys (rising_sorted place xs p) (rising_sorted place ys q) to
    from

-- the same of places themselves
pub one_places : (ps qs : List Sites) → AreRising ps → AreRising qs → ((z : Sites) → Contains ps z → Contains qs z)
    → ((z : Sites) → Contains qs z → Contains ps z)
    → ps ≡ qs
one_places ps qs a b to from =
    one_sorted Sites IsBefore not_both ps qs (places_sorted ps a) (places_sorted qs b) to from
  where
    places_sorted : (ps : List Sites) → AreRising ps → AreSorted Sites IsBefore ps
    places_sorted ps rising = sorted_by Sites IsBefore ps
        (λ j k d less lt.
        subst (λ p. IsBefore p (get_or ps k d)) (get_or_default ps j [] d (omega (arith, less, lt)))
        (subst (IsBefore (get_or ps j [])) (get_or_default ps k [] d lt) (rising j k less lt)))
