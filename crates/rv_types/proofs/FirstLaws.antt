-- What the first fault of a list is.
use Rattle.std.proofs.Common.{◌≡◌, ℕ, ◌+◌, ◌*◌, ◌<◌, ◌≤◌, ◌⊎◌, inl, inr, Bool, true, false, cond, nat_le, List, [], ◌∷◌, Option, Some, None, Contains, refl}
use Rattle.std.proofs.Common.{sym, subst, arith}
use Rattle.std.proofs.{lemmas.Bool.cases_lt, lemmas.Bool.Decides.nat_tests}
use Rattle.rv_types.specs.Faults.{offset, number, ComesBefore, IsFirst}
use Rattle.rv_types.specs.{declared.fault.NameFault.TheVariants.NoNode, declared.fault.NameFault.NameFault, Earliest.rank, Earliest.sooner, Earliest.first}
use Rattle.rv_types.proofs.Members.{at_head, cons_cases, in_tail}

number_small : (f : NameFault) → number f < 16
number_small NoNode = omega arith
number_small _ = omega arith

by_rank : (a n b m : ℕ) → n < 16 → m < 16 → a * 16 + n ≤ b * 16 + m → (a < b) ⊎ ((a ≡ b) × (n ≤ m))
by_rank a n b m h k l = elim (cases_lt a b) as (λ _. (a < b) ⊎ ((a ≡ b) × (n ≤ m))) [ inl p ↦ inl p | inr p ↦ inr (omega arith, omega arith) ]

pub before_from_rank : (f g : NameFault) → rank f ≤ rank g → ComesBefore f g
before_from_rank f g h = by_rank (offset f) (number f) (offset g) (number g) (number_small f) (number_small g) h

not_none : (x : NameFault) (o : Option NameFault) → sooner (Some x) o ≡ None → ⊥
not_none x None h = cc
not_none x (Some g) h =
    (elim (nat_le (rank x) (rank g)) as (λ b. cond b (Some x) (Some g) ≡ None → ⊥) [ true ↦ (λ e. cc) | false ↦ (λ e. cc) ]) h

pub first_none : (fs : List NameFault) → first fs ≡ None → fs ≡ []
first_none [] h = refl
first_none (x ∷ xs) h = absurd (not_none x (first xs) h)

-- what is first by rank
pub Least : NameFault → List NameFault → Type 0
Least f fs = Contains fs f × ((g : NameFault) → Contains fs g → rank f ≤ rank g)

least_cons : (x : NameFault) (xs : List NameFault) (f : NameFault) → Contains (x ∷ xs) f → rank f ≤ rank x → ((g : NameFault) → Contains xs g → rank f ≤ rank g)
    → Least f (x ∷ xs)
unfolding Least
least_cons x xs f m h below = (m, λ g n. elim (cons_cases x xs g n) [ inl e ↦ subst (λ y. rank f ≤ rank y) e h | inr k ↦ below g k ])

mutual_step : (x : NameFault) (xs : List NameFault) (f : NameFault) (o : Option NameFault) → first xs ≡ o → ((g : NameFault) → first xs ≡ Some g → Least g xs)
    → sooner (Some x) o ≡ Some f → Least f (x ∷ xs)
unfolding Least
mutual_step x xs f None e rest h =
    let s : x ≡ f = cc in
    let n : xs ≡ [] = first_none xs e in
    subst (λ y. Least y (x ∷ xs)) s (subst (λ l. Least x (x ∷ l)) (sym n) (least_cons x [] x (at_head x []) (omega arith) (λ g m. absurd (omega (arith, m.1)))))
mutual_step x xs f (Some g) e rest h = by (nat_le (rank x) (rank g)) refl h
  where
    by : (b : Bool) → nat_le (rank x) (rank g) ≡ b → cond b (Some x) (Some g) ≡ Some f → Least f (x ∷ xs)
    by true t k =
        let s : x ≡ f = cc in
        let l : rank x ≤ rank g = grind (arith, nat_tests) in
        let r = rest g e in
        subst (λ y. Least y (x ∷ xs)) s (least_cons x xs x (at_head x xs) (omega arith) (λ j m. omega (arith, r.1 j m)))
    by false t k =
        let s : g ≡ f = cc in
        let l : rank g < rank x = grind (arith, nat_tests) in
        let r = rest g e in
        subst (λ y. Least y (x ∷ xs)) s (least_cons x xs g (in_tail x xs g r.0) (omega arith) r.1)

pub first_least : (fs : List NameFault) (f : NameFault) → first fs ≡ Some f → Least f fs
first_least [] f h = absurd (let b : ⊥ = cc in b)
first_least (x ∷ xs) f h = mutual_step x xs f (first xs) refl (λ g e. first_least xs g e) h

pub first_is : (fs : List NameFault) (f : NameFault) → first fs ≡ Some f → IsFirst f fs
unfolding Least
first_is fs f h = let l = first_least fs f h in (l.0, λ g m. before_from_rank f g (l.1 g m))
