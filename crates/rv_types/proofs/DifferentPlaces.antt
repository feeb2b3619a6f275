-- Places that are counted once, and sums over lists.
use Rattle.rv_base.proofs.Truths.{both_of}
use Rattle.rv_tree.specs.Places.{Sites}
use Rattle.rv_types.proofs.{ChainLaws.no_flag, Members.at_head, Members.cons_cases, Members.in_tail, Members.nothing_in}
use Rattle.rv_types.specs.Variables.{different, is_place_in, same_place, total}
use Rattle.std.proofs.Common.{Bool, List, [], ap, arith, cond, false, inl, inr, length, map, nat_eq, refl, subst, suc, sym, true, ℕ, ◌&&◌, ◌++◌, ◌+◌, ◌∙◌, ◌∷◌}
use Rattle.std.proofs.Common.{◌≡◌, ◌||◌}
use Rattle.std.proofs.{lemmas.Bool.Decides.nat_tests, lemmas.Bool.eq-eqb}
use Rattle.std.specs.List.{Contains, flat_map}

pub total_append : {X : Type 0} (f : X → ℕ) (xs ys : List X) → total f (xs ++ ys) ≡ total f xs + total f ys
total_append f [] ys = omega arith
total_append f (x ∷ xs) ys = let h = total_append f xs ys in omega (arith, h)

pub total_map : {X Y : Type 0} (f : Y → ℕ) (g : X → Y) (xs : List X) → total f (map g xs) ≡ total (λ x. f (g x)) xs
total_map f g [] = refl
total_map f g (x ∷ xs) = let h = total_map f g xs in omega (arith, h)

pub same_places : (p q : Sites) → same_place p q ≡ true → p ≡ q
same_places [] [] h = refl
same_places [] (y ∷ ys) h = no_flag h
same_places (x ∷ xs) [] h = no_flag h
same_places (x ∷ xs) (y ∷ ys) h =
    let b = both_of (nat_eq x y) (same_place xs ys) h in
    let first : x ≡ y = let t = b.0 in grind (arith, nat_tests, t) in
    let rest = same_places xs ys b.1 in
    λ i. first i ∷ rest i

-- a list without one of its elements
pub rest_of : {X : Type 0} (ys : List X) (x : X) → Contains ys x → (zs : List X) × (length ys ≡ suc (length zs))
    × ((z : X) → Contains ys z → (z ≡ x → ⊥) → Contains zs z)
rest_of [] x w = nothing_in x w
rest_of (y ∷ ys) x w = elim (cons_cases y ys x w) [
  | inl same ↦ (ys, refl, λ z v other. elim (cons_cases y ys z v) [ inl e ↦ absurd (other (sym e ∙ same)) | inr u ↦ u ])
  | inr rest ↦ let r = rest_of ys x rest in (
    y ∷ r.0,
    ap suc r.1,
    λ z v other.
        elim (cons_cases y ys z v) [ inl e ↦ subst (λ u. Contains (u ∷ r.0) z) (sym e) (at_head z r.0) | inr u ↦ in_tail y r.0 z (r.2 z u other) ],
  )
]

pub of_different : (qs : List Sites) (q : Sites) → Contains (different qs) q → Contains qs q
of_different [] q w = nothing_in q w
of_different (r ∷ qs) q w = by (is_place_in qs r) (λ v. of_different qs q v) w
  where
    by : (b : Bool) → (Contains (different qs) q → Contains qs q) → Contains (cond b (different qs) (r ∷ different qs)) q → Contains (r ∷ qs) q
    by true again w = in_tail r qs q (again w)
    by false again w = elim (cons_cases r (different qs) q w) [
      | inl same ↦ subst (λ (x : Sites). Contains (x ∷ qs) q) (sym same) (at_head q qs)
      | inr rest ↦ in_tail r qs q (again rest)
    ]

pub total_same : {X : Type 0} (f g : X → ℕ) (xs : List X) → ((x : X) → Contains xs x → f x ≡ g x) → total f xs ≡ total g xs
total_same f g [] same = refl
total_same f g (x ∷ xs) same =
    let h = total_same f g xs (λ y w. same y (in_tail x xs y w)) in
    let a = same x (at_head x xs) in
    omega (arith, h, a)

pub same_self : (p : Sites) → same_place p p ≡ true
same_self [] = refl
same_self (x ∷ xs) = ap (λ b. b && same_place xs xs) (eq-eqb x x refl) ∙ same_self xs

pub total_flat_map : {X Y : Type 0} (h : Y → ℕ) (g : X → List Y) (xs : List X) → total h (flat_map g xs) ≡ total (λ x. total h (g x)) xs
total_flat_map h g [] = refl
total_flat_map h g (x ∷ xs) = let a = total_append h (g x) (flat_map g xs) in let more = total_flat_map h g xs in omega (arith, a, more)

pub in_places : (qs : List Sites) (q : Sites) → is_place_in qs q ≡ true → Contains qs q
in_places [] q h = no_flag h
in_places (r ∷ qs) q h = by (same_place r q) refl h (in_places qs q)
  where
    by : (b : Bool) → same_place r q ≡ b → (b || is_place_in qs q) ≡ true → (is_place_in qs q ≡ true → Contains qs q) → Contains (r ∷ qs) q
    by true e h again = subst (λ z. Contains (z ∷ qs) q) (sym (same_places r q e)) (at_head q qs)
    by false e h again = in_tail r qs q (again h)

pub still_different : (qs : List Sites) (q : Sites) → Contains qs q → Contains (different qs) q
still_different [] q w = nothing_in q w
still_different (r ∷ qs) q w = by (is_place_in qs r) refl (still_different qs)
  where
    by : (b : Bool) → is_place_in qs r ≡ b → ((q : Sites) → Contains qs q → Contains (different qs) q) → Contains (cond b (different qs) (r ∷ different qs)) q
    by true e again = elim (cons_cases r qs q w) [
      | inl same ↦ again q (subst (λ z. Contains qs z) same (in_places qs r e))
      | inr rest ↦ again q rest
    ]
    by false e again = elim (cons_cases r qs q w) [
      | inl same ↦ subst (λ z. Contains (z ∷ different qs) q) (sym same) (at_head q (different qs))
      | inr rest ↦ in_tail r (different qs) q (again q rest)
    ]
