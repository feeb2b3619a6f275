-- The order of places: lists that rise in it are told by what they hold.
use Rattle.rv_tree.specs.Places.{Sites}
use Rattle.rv_types.specs.{Lists.AreRising, Lists.MemoryAt, Lists.memory_places, Needs.IsBefore}
use Rattle.std.proofs.Common.{List, [], ap, arith, get_or, inl, inr, length, suc, zero, ℕ, ◌<◌, ◌∷◌, ◌≡◌, subst, refl, sym}
use Rattle.std.proofs.lemmas.List.{length-map}
use Rattle.std.specs.List.{Contains}
use Rattle.rv_types.proofs.Members.{cons_cases, in_tail, at_head, nothing_in}

pub not_itself : (p : Sites) → IsBefore p p → ⊥
not_itself [] b = b
not_itself (x ∷ xs) (inl lt) = absurd (omega arith)
not_itself (x ∷ xs) (inr (e, b)) = not_itself xs b

pub placed : (ms : List MemoryAt) (j : ℕ) (a : MemoryAt) → j < length ms → get_or ms j a ≡ a → get_or (memory_places ms) j [] ≡ a.place
placed [] j a lt e = absurd (omega (arith, lt))
placed (m ∷ ms) zero a lt e = ap (λ (m : MemoryAt). m.place) e
placed (m ∷ ms) (suc j) a lt e = placed ms j a (omega (arith, lt)) e

-- and none before one that stands before it
pub not_both : (a b : Sites) → IsBefore a b → IsBefore b a → ⊥
not_both a [] h k = h
not_both [] (y ∷ ys) h k = k
not_both (x ∷ xs) (y ∷ ys) (inl lt) (inl less) = omega (arith, lt, less)
not_both (x ∷ xs) (y ∷ ys) (inl lt) (inr w) = let e = w.0 in omega (arith, lt, e)
not_both (x ∷ xs) (y ∷ ys) (inr v) (inl less) = let e = v.0 in omega (arith, less, e)
not_both (x ∷ xs) (y ∷ ys) (inr v) (inr w) = not_both xs ys v.1 w.1

pub rest_rises : (x : MemoryAt) (xs : List MemoryAt) → AreRising (memory_places (x ∷ xs)) → AreRising (memory_places xs)
rest_rises x xs up j k lt less = up (suc j) (suc k) (omega (arith, lt)) (omega (arith, less))

-- what stands in the rest of a list that rises comes later
pub later : (x : MemoryAt) (xs : List MemoryAt) → AreRising (memory_places (x ∷ xs)) → (m : MemoryAt) → Contains xs m → IsBefore x.place m.place
later x xs up m w =
    let long = length-map xs (λ (m : MemoryAt). m.place) in
    let lt = w.1 in
    subst (IsBefore x.place) (placed xs w.0 m w.1 w.2) (up 0 (suc w.0) (omega arith) (omega (arith, long, lt)))

pub no_more : (x : MemoryAt) (xs ys : List MemoryAt) → AreRising (memory_places (x ∷ xs)) → ((m : MemoryAt) → Contains (x ∷ xs) m → Contains (x ∷ ys) m)
    → (m : MemoryAt) → Contains xs m → Contains ys m
no_more x xs ys up to m w = elim (cons_cases x ys m (to m (in_tail x xs m w))) [
  | inl same ↦ absurd (not_itself m.place (subst (λ (a : MemoryAt). IsBefore a.place m.place) same (later x xs up m w)))
  | inr there ↦ there
]

-- Two lists that rise and have the same memories are one.
pub one_list : (xs ys : List MemoryAt) → AreRising (memory_places xs) → AreRising (memory_places ys) → ((m : MemoryAt) → Contains xs m → Contains ys m)
    → ((m : MemoryAt) → Contains ys m → Contains xs m) → xs ≡ ys
one_list [] [] up down to from = refl
one_list [] (y ∷ ys) up down to from = nothing_in y (from y (at_head y ys))
one_list (x ∷ xs) [] up down to from = nothing_in x (to x (at_head x xs))
one_list (x ∷ xs) (y ∷ ys) up down to from =
    let same : x ≡ y = elim (cons_cases y ys x (to x (at_head x xs))) [
      | inl is ↦ sym is
      | inr below ↦ elim (cons_cases x xs y (from y (at_head y ys))) [
        | inl is ↦ is
        | inr above ↦ absurd (not_both x.place y.place (later x xs up y above) (later y ys down x below))
      ]
    ] in
    let rest = one_list xs ys (rest_rises x xs up) (rest_rises y ys down)
    (no_more x xs ys up (λ m w. subst (λ (z : MemoryAt). Contains (z ∷ ys) m) (sym same) (to m w)))
    (no_more y ys xs down (λ m w. subst (λ (z : MemoryAt). Contains (z ∷ xs) m) same (from m w))) in
    λ i. same i ∷ rest i
