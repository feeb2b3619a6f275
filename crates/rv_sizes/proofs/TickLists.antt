-- Lists whose elements are different, and how long they are.
use Rattle.std.proofs.Common.{◌≡◌, ℕ, ◌≤◌, ◌⊎◌, inl, inr, Bool, true, false, cond, ◌||◌, nat_eq, List, [], ◌∷◌, ◌++◌, map, length, refl, sym, ◌∙◌, ap, subst}
use Rattle.std.proofs.Common.{arith}
use Rattle.std.proofs.{lemmas.Bool.eqb-true, lemmas.Bool.eq-eqb, lemmas.List.Elements.Contains-append_cases}
use Rattle.std.specs.List.{Contains, flat_map}
use Rattle.rv_tree.specs.Places.{Sites}
use Rattle.rv_types.specs.Variables.{is_in, same_place, is_place_in, different}
use Rattle.rv_types.specs.{declared.typed.Clock.Clock, declared.typed.Clock.TheVariants.Base, declared.typed.Clock.TheVariants.On}
use Rattle.rv_sizes.specs.Ticks.{has_base, sites_of_clocks}
use Rattle.rv_types.proofs.Members.{cons_cases, in_map, in_tail, nothing_in, of_flat_map}
use Rattle.rv_types.proofs.DifferentPlaces.{of_different, rest_of, same_self}
use Rattle.rv_base.proofs.{Lists.from_map, Truths.or_true}

-- no two elements are equal
abbrev pub Apart : {X : Type 0} → List X → Type 0
Apart [] = Unit {0}
Apart (x ∷ xs) = (Contains xs x → ⊥) × Apart xs

pub first_in : {X : Type 0} (x : X) (xs : List X) (y : X) → x ≡ y → Contains (x ∷ xs) y
first_in x xs y e = (0, omega arith, e)

-- different elements of a list are no more than that has
pub no_longer : {X : Type 0} (xs ys : List X) → Apart xs → ((z : X) → Contains xs z → Contains ys z) → length xs ≤ length ys
no_longer [] ys apart sub = omega arith
no_longer (x ∷ xs) ys apart sub =
    let r = rest_of ys x (sub x (first_in x xs x refl)) in
    omega (arith, no_longer xs r.0 apart.1 (λ z w. r.2 z (sub z (in_tail x xs z w)) (λ e. apart.0 (subst (Contains xs) e w))), r.1)

-- two lists of different elements that have the same elements are as long
pub same_length : {X : Type 0} (xs ys : List X) → Apart xs → Apart ys → ((z : X) → Contains xs z → Contains ys z) → ((z : X) → Contains ys z → Contains xs z)
    → length xs ≡ length ys
same_length xs ys a b to from = omega (arith, no_longer xs ys a to, no_longer ys xs b from)

pub apart_append : {X : Type 0} (xs ys : List X) → Apart xs → Apart ys → ((z : X) → Contains xs z → Contains ys z → ⊥) → Apart (xs ++ ys)
apart_append [] ys a b none = b
apart_append (x ∷ xs) ys a b none = (
  λ w. elim (Contains-append_cases xs ys x w) [ inl v ↦ a.0 v | inr v ↦ none x (first_in x xs x refl) v ],
  apart_append xs ys a.1 b (λ z w v. none z (in_tail x xs z w) v),
)

pub apart_map : {X Y : Type 0} (f : X → Y) → ((x y : X) → f x ≡ f y → x ≡ y) → (xs : List X) → Apart xs → Apart (map f xs)
apart_map f one [] a = tt
apart_map f one (x ∷ xs) a = (λ w. let v = from_map f xs (f x) w in a.0 (subst (Contains xs) (one v.0 x v.2) v.1), apart_map f one xs a.1)

-- lists that have nothing in common, one after the other, where a number tells from which an element is
pub apart_flat_map : {X Y : Type 0} (f : X → List Y) (number : X → ℕ) (xs : List X) → Apart (map number xs) → ((x : X) → Contains xs x → Apart (f x))
    → ((x y : X) (z : Y) → Contains xs x → Contains xs y → Contains (f x) z → Contains (f y) z → number x ≡ number y) → Apart (flat_map f xs)
apart_flat_map f number [] a each tells = tt
apart_flat_map f number (x ∷ xs) a each tells =
    apart_append (f x) (flat_map f xs) (each x (first_in x xs x refl))
    (apart_flat_map f number xs a.1 (λ y w. each y (in_tail x xs y w)) (λ y z v w u. tells y z v (in_tail x xs y w) (in_tail x xs z u)))
    (λ z w v.
    let y = of_flat_map f xs z v in
    a.0 (subst (Contains (map number xs)) (sym (tells x y.0 z (first_in x xs x refl) (in_tail x xs y.0 y.1) w y.2)) (in_map number xs y.0 y.1)))

-- Places.

there_place : (ps : List Sites) (q : Sites) → Contains ps q → is_place_in ps q ≡ true
there_place [] q w = nothing_in q w
there_place (p ∷ ps) q w = elim (cons_cases p ps q w) [
  | inl same ↦ ap (λ b. b || is_place_in ps q) (ap (same_place p) (sym same) ∙ same_self p)
  | inr rest ↦ ap (λ b. same_place p q || b) (there_place ps q rest) ∙ or_true (same_place p q)
]

pub different_apart : (ps : List Sites) → Apart (different ps)
different_apart [] = tt
different_apart (p ∷ ps) = tested (is_place_in ps p) refl (different_apart ps)
  where
    tested : (b : Bool) → is_place_in ps p ≡ b → Apart (different ps) → Apart (cond b (different ps) (p ∷ different ps))
    tested true is more = more
    tested false is more = (λ w. let is_there = there_place ps p (of_different ps p w) in let no : ⊥ = cc in no, more)

-- The sites of clocks.

pub base_there : (ks : List Clock) → has_base ks ≡ true → Contains ks Base
base_there [] e = cc
base_there (Base ∷ ks) e = first_in Base ks Base refl
base_there (On c ∷ ks) e = in_tail (On c) ks Base (base_there ks e)

pub there_base : (ks : List Clock) → Contains ks Base → has_base ks ≡ true
there_base [] w = nothing_in Base w
there_base (Base ∷ ks) w = refl
there_base (On c ∷ ks) w = elim (cons_cases (On c) ks Base w) [ inl same ↦ cc | inr rest ↦ there_base ks rest ]

on_same : (c d : ℕ) → On c ≡ On d → c ≡ d
on_same c d e = cc

not_base : (c : ℕ) → Base ≡ On c → ⊥
not_base c e = cc

-- a site that comes is that of a clock, and has not been seen
pub site_is : (ks : List Clock) (seen : List ℕ) (c : ℕ) → Contains (sites_of_clocks seen ks) c → Contains ks (On c) × (is_in seen c ≡ false)
site_is [] seen c w = nothing_in c w
site_is (Base ∷ ks) seen c w = let v = site_is ks seen c w in (in_tail Base ks (On c) v.0, v.1)
site_is (On d ∷ ks) seen c w = tested (is_in seen d) refl w (site_is ks seen c) (site_is ks (d ∷ seen) c)
  where
    unseen : (b a : Bool) → (b || a) ≡ false → a ≡ false
    unseen true a e = cc
    unseen false a e = e

    tested : (b : Bool) → is_in seen d ≡ b → Contains (cond b (sites_of_clocks seen ks) (d ∷ sites_of_clocks (d ∷ seen) ks)) c
        → (Contains (sites_of_clocks seen ks) c → Contains ks (On c) × (is_in seen c ≡ false))
        → (Contains (sites_of_clocks (d ∷ seen) ks) c → Contains ks (On c) × (is_in (d ∷ seen) c ≡ false))
        → Contains (On d ∷ ks) (On c) × (is_in seen c ≡ false)
    tested true is w more next = let v = more w in (in_tail (On d) ks (On c) v.0, v.1)
    tested false is w more next = elim (cons_cases d (sites_of_clocks (d ∷ seen) ks) c w) [
      | inl same ↦ (first_in (On d) ks (On c) (ap On same), sym (ap (is_in seen) same) ∙ is)
      | inr rest ↦ let v = next rest in (in_tail (On d) ks (On c) v.0, unseen (nat_eq d c) (is_in seen c) v.1)
    ]

pub site_comes : (ks : List Clock) (seen : List ℕ) (c : ℕ) → Contains ks (On c) → is_in seen c ≡ false → Contains (sites_of_clocks seen ks) c
site_comes [] seen c w new = nothing_in (On c) w
site_comes (Base ∷ ks) seen c w new = elim (cons_cases Base ks (On c) w) [ inl same ↦ absurd (not_base c same) | inr rest ↦ site_comes ks seen c rest new ]
site_comes (On d ∷ ks) seen c w new =
    tested (is_in seen d) refl (nat_eq d c) refl (cons_cases (On d) ks (On c) w) (λ v. site_comes ks seen c v new)
    (λ v other. site_comes ks (d ∷ seen) c v (ap (λ b. b || is_in seen c) other ∙ new))
  where
    tested : (b : Bool) → is_in seen d ≡ b → (same : Bool) → nat_eq d c ≡ same → (On d ≡ On c) ⊎ Contains ks (On c)
        → (Contains ks (On c) → Contains (sites_of_clocks seen ks) c) → (Contains ks (On c) → nat_eq d c ≡ false → Contains (sites_of_clocks (d ∷ seen) ks) c)
        → Contains (cond b (sites_of_clocks seen ks) (d ∷ sites_of_clocks (d ∷ seen) ks)) c
    tested true is same eq (inl e) more next = absurd (let at = ap (is_in seen) (on_same d c e) in let no : ⊥ = cc in no)
    tested true is same eq (inr rest) more next = more rest
    tested false is true eq w more next = first_in d (sites_of_clocks (d ∷ seen) ks) c (eqb-true d c eq)
    tested false is false eq (inl e) more next = first_in d (sites_of_clocks (d ∷ seen) ks) c (on_same d c e)
    tested false is false eq (inr rest) more next = in_tail d (sites_of_clocks (d ∷ seen) ks) c (next rest eq)

pub sites_apart : (ks : List Clock) (seen : List ℕ) → Apart (sites_of_clocks seen ks)
sites_apart [] seen = tt
sites_apart (Base ∷ ks) seen = sites_apart ks seen
sites_apart (On d ∷ ks) seen = tested (is_in seen d) (sites_apart ks seen) (sites_apart ks (d ∷ seen))
  where
    tested : (b : Bool) → Apart (sites_of_clocks seen ks) → Apart (sites_of_clocks (d ∷ seen) ks)
        → Apart (cond b (sites_of_clocks seen ks) (d ∷ sites_of_clocks (d ∷ seen) ks))
    tested true more next = more
    tested false more next =
        (λ w. let v = (site_is ks (d ∷ seen) d w).1 in let here = ap (λ b. b || is_in seen d) (eq-eqb d d refl) in let no : ⊥ = cc in no, next)
