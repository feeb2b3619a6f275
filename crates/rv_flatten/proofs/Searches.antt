-- What is kept only as a truth is had again: where it has one proof at most, and where a search of a list finds it.
use Rattle.std.proofs.Common.{◌≡◌, ℕ, zero, suc, ◌<◌, inl, inr, Bool, true, false, List, [], ◌∷◌, get_or, refl, sym, ◌∙◌, ap, subst, arith, Option, Some}
use Rattle.std.proofs.Common.{None as Nothing}
use Rattle.std.proofs.{Math.Logic.∥∥₁_elim, Math.Logic.∥∥₁_map, Math.Nat.eq-or-lt_of_le, lemmas.Bool.cases_order}
use Rattle.std.specs.List.{Contains}
use Rattle.rv_tree.specs.Places.{Sites, is_same}
use Rattle.rv_types.specs.Needs.{IsBefore}
use Rattle.rv_types.proofs.{ChainLaws.no_flag, Members.at_head, Members.cons_cases, Members.in_tail, Members.nothing_in, Members.text_itself}
use Rattle.rv_meaning.proofs.NameLemmas.{same_text}

-- what cannot be is no truth
pub refuted : {P G : Type 0} → ∥ P ∥₁ → (P → ⊥) → G
refuted t f = absurd (∥∥₁_elim t (λ x y. absurd x) f)

-- the first of a list that passes a test, where one does
pub found : {X : Type 0} (test : X → Bool) (xs : List X) → ∥ ((x : X) × Contains xs x × (test x ≡ true)) ∥₁ → (x : X) × Contains xs x × (test x ≡ true)
found test [] t = refuted t (λ w. nothing_in w.0 w.1)
found {X = X} test (x ∷ xs) t = by (test x) refl (λ u. found test xs u)
  where
    by : (b : Bool) → test x ≡ b
        → (∥ ((y : X) × Contains xs y × (test y ≡ true)) ∥₁ → (y : X) × Contains xs y × (test y ≡ true))
        → (y : X) × Contains (x ∷ xs) y × (test y ≡ true)
    by true e later = (x, at_head x xs, e)
    by false e later =
        let rest = later (∥∥₁_map t (λ w. elim (cons_cases x xs w.0 w.1) [
          | inl same ↦ no_flag (sym e ∙ ap test same ∙ w.2)
          | inr more ↦ (w.0, more, w.2)
        ])) in
        (rest.0, in_tail x xs rest.0 rest.1, rest.2)

-- a place among the first of a list
pub among_again : (places : List Sites) (n : ℕ) (q : Sites) → ∥ ((j : ℕ) × (j < n) × (get_or places j [] ≡ q)) ∥₁ → (j : ℕ) × (j < n) × (get_or places j [] ≡ q)
among_again places zero q t = refuted t (λ w. let lt = w.1 in omega (arith, lt))
among_again places (suc n) q t = by (is_same (get_or places n []) q) refl (λ u. among_again places n q u)
  where
    by : (b : Bool) → is_same (get_or places n []) q ≡ b
        → (∥ ((j : ℕ) × (j < n) × (get_or places j [] ≡ q)) ∥₁ → (j : ℕ) × (j < n) × (get_or places j [] ≡ q))
        → (j : ℕ) × (j < suc n) × (get_or places j [] ≡ q)
    by true e before = (n, omega arith, same_text (get_or places n []) q e)
    by false e before =
        let rest = before (∥∥₁_map t (λ w. elim (eq-or-lt_of_le {n = w.0} {m = n} (let lt = w.1 in omega (arith, lt))) [
          | inl same ↦ no_flag (sym e ∙ ap (λ k. is_same (get_or places k []) q) (sym same) ∙ ap (λ p. is_same p q) w.2 ∙ text_itself q)
          | inr below ↦ (w.0, below, w.2)
        ])) in
        (rest.0, (let lt = rest.1 in omega (arith, lt)), rest.2)

-- the order of two places
pub before_again : (p q : Sites) → ∥ IsBefore p q ∥₁ → IsBefore p q
before_again [] [] t = refuted t (λ b. b)
before_again (x ∷ xs) [] t = refuted t (λ b. b)
before_again [] (y ∷ ys) t = tt
before_again (x ∷ xs) (y ∷ ys) t = elim (cases_order x y) [
  | inl same ↦ inr (same, before_again xs ys (∥∥₁_map t (λ b. elim b [ inl below ↦ absurd (omega (arith, below, same)) | inr more ↦ more.1 ])))
  | inr other ↦ elim other [
    | inl below ↦ inl below
    | inr above ↦ refuted t (λ b. elim b [ inl below ↦ omega (arith, below, above) | inr more ↦ (let same = more.0 in omega (arith, same, above)) ])
  ]
]

-- a number that is there, of which there is one proof that it passes
pub site_again : (P : ℕ → Type 0) → ((s : ℕ) → IsProp (P s)) → (o : Option ℕ) → ∥ ((s : ℕ) × ((o ≡ Some s) × P s)) ∥₁ → (s : ℕ) × ((o ≡ Some s) × P s)
site_again P one Nothing t = refuted t (λ w. let e = w.1.0 in cc)
site_again P one (Some s) t = (s, (refl, ∥∥₁_elim t (one s) (λ w. subst P (number_of w.0 w.1.0) w.1.1)))
  where
    number_of : (r : ℕ) → Some s ≡ Some r → r ≡ s
    number_of r e = cc
