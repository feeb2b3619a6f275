-- The order of places, and the least of some.
use Rattle.std.proofs.Common.{◌≡◌, ℕ, ◌+◌, ◌<◌, ◌⊎◌, Bool, true, false, cond, List, [], ◌∷◌, get_or, refl, sym, ◌∙◌, ap, subst, arith, inl, inr, Option}
use Rattle.std.proofs.Common.{None as Nothing, Some}
use Rattle.std.proofs.{Math.Nat.eq-or-lt_of_le, lemmas.Bool.Decides.nat_tests}
use Rattle.std.specs.{Ordering.nat_cmp, Ordering.is_lt, Ordering.ordering_then, declared.cmp.Ordering.Ordering, declared.cmp.Ordering.TheVariants.Less}
use Rattle.std.specs.{declared.cmp.Ordering.TheVariants.Equal, declared.cmp.Ordering.TheVariants.Greater, Cmp.Lexicographic.slice_cmp}
use Rattle.rv_base.specs.declared.value.Place.{Place}
use Rattle.rv_tree.specs.Places.{Sites}
use Rattle.rv_types.specs.Needs.{IsBefore}
use Rattle.rv_flat.specs.{Earliest.is_before, Earliest.sooner, Earliest.IsPicked, Steps.IsLeast, Steps.IsLeastOf}
use Rattle.rv_types.proofs.{ChainLaws.no_flag, PlaceOrders.not_itself}

-- the test says what the order does
pub before_tested : (p q : Sites) → is_before p q ≡ true → IsBefore p q
before_tested [] (y ∷ ys) e = tt
before_tested [] [] e = no_flag e
before_tested (x ∷ xs) [] e = no_flag e
before_tested (x ∷ xs) (y ∷ ys) e = tested (nat_cmp x y) refl e (before_tested xs ys)
  where
    tested : (o : Ordering) → nat_cmp x y ≡ o → is_lt (ordering_then o (slice_cmp nat_cmp xs ys)) ≡ true → (is_before xs ys ≡ true → IsBefore xs ys)
        → (x < y) ⊎ ((x ≡ y) × IsBefore xs ys)
    tested Less is e later = inl (grind (arith, nat_tests))
    tested Equal is e later = inr (grind (arith, nat_tests), later e)
    tested Greater is e later = no_flag e

chain : (p q r : Sites) → IsBefore p q → IsBefore q r → IsBefore p r
chain p q [] b c = c
chain p [] (z ∷ zs) b c = absurd b
chain [] (y ∷ ys) (z ∷ zs) b c = tt
chain (x ∷ xs) (y ∷ ys) (z ∷ zs) (inl lt) (inl less) = inl (omega arith)
chain (x ∷ xs) (y ∷ ys) (z ∷ zs) (inl lt) (inr (same, c)) = inl (omega (arith, same))
chain (x ∷ xs) (y ∷ ys) (z ∷ zs) (inr (e, b)) (inl less) = inl (omega (arith, e))
chain (x ∷ xs) (y ∷ ys) (z ∷ zs) (inr (e, b)) (inr (same, c)) = inr (e ∙ same, chain xs ys zs b c)

-- of two places that are not in order the other is as early
as_early : (p q : Sites) → is_before q p ≡ false → (p ≡ q) ⊎ IsBefore p q
as_early [] [] e = inl refl
as_early [] (y ∷ ys) e = inr tt
as_early (x ∷ xs) [] e = no_flag (sym e)
as_early (x ∷ xs) (y ∷ ys) e = tested (nat_cmp y x) refl e (as_early xs ys)
  where
    tested : (o : Ordering) → nat_cmp y x ≡ o → is_lt (ordering_then o (slice_cmp nat_cmp ys xs)) ≡ false
        → (is_before ys xs ≡ false → (xs ≡ ys) ⊎ IsBefore xs ys)
        → (x ∷ xs ≡ y ∷ ys) ⊎ ((x < y) ⊎ ((x ≡ y) × IsBefore xs ys))
    tested Less is e later = no_flag (sym e)
    tested Greater is e later = inr (inl (grind (arith, nat_tests)))
    tested Equal is e later =
        let same : x ≡ y = grind (arith, nat_tests) in
        elim (later e) [ inl rest ↦ inl (λ i. same i ∷ rest i) | inr before ↦ inr (inr (same, before)) ]

-- The earlier one of a place and the least of others is the least of both, where the place itself is before no other that is
-- not among those.
least_with : (Is And : Sites → Type 0) (p : Option Place) (q : Place) → IsLeastOf Is p → And q.sites → ((r : Sites) → And r → (IsBefore r q.sites → ⊥) ⊎ Is r)
    → ((r : Sites) → Is r → And r) → IsLeast And (sooner p q).sites
least_with Is And Nothing q least here one all = (here, λ r is b. elim (one r is) [ inl later ↦ later b | inr other ↦ least r other ])
least_with Is And (Some p) q least here one all = tested (is_before q.sites p.sites) refl
  where
    tested : (b : Bool) → is_before q.sites p.sites ≡ b → IsLeast And (cond b q p).sites
    tested true e = (
      here,
      λ r is b. elim (one r is) [ inl later ↦ later b | inr other ↦ least.1 r other (chain r q.sites p.sites b (before_tested q.sites p.sites e)) ],
    )
    tested false e = (
      all p.sites least.0,
      λ r is b. elim (one r is) [
        | inl later ↦ later (elim (as_early p.sites q.sites e) [ inl same ↦ subst (IsBefore r) same b | inr before ↦ chain r p.sites q.sites b before ])
        | inr other ↦ least.1 r other b
      ],
    )

-- the least of two kinds of places
pub least_joined : (A B : Sites → Type 0) (p : Option Place) (q : Place) → IsLeastOf A p → IsLeast B q.sites → IsLeast (λ r. A r ⊎ B r) (sooner p q).sites
least_joined A B p q a b =
    least_with A (λ r. A r ⊎ B r) p q a (inr b.0) (λ r is. elim is [ inl of_a ↦ inr of_a | inr of_b ↦ inl (b.1 r of_b) ]) (λ r is. inl is)

pub least_alone : (A B : Sites → Type 0) (p : Option Place) → IsLeastOf A p → ((q : Sites) → B q → ⊥) → IsLeastOf (λ r. A r ⊎ B r) p
least_alone A B Nothing a none = λ q is. elim is [ inl of_a ↦ a q of_a | inr of_b ↦ none q of_b ]
least_alone A B (Some p) a none = (inl a.0, λ q is. elim is [ inl of_a ↦ a.1 q of_a | inr of_b ↦ absurd (none q of_b) ])

-- the least of the same places
pub least_same : (A B : Sites → Type 0) (p : Option Place) → ((q : Sites) → A q → B q) → ((q : Sites) → B q → A q) → IsLeastOf A p → IsLeastOf B p
least_same A B Nothing to from a = λ q is. a q (from q is)
least_same A B (Some p) to from a = (to p.sites a.0, λ q is. a.1 q (from q is))

-- one number more
module _ (test : ℕ → Bool) (places : List Sites) (n : ℕ) where
  picked_before : (q : Sites) → IsPicked test places n q → IsPicked test places (n + 1) q
  picked_before q w = (w.0, omega (arith, w.1), w.2, w.3)

  pub picked_yes : (least : Option Place) (p : Place) → test n ≡ true → get_or places n [] ≡ p.sites → IsLeastOf (IsPicked test places n) least
      → IsLeastOf (IsPicked test places (n + 1)) (Some (sooner least p))
  picked_yes least p passes is before = least_with (IsPicked test places n) (IsPicked test places (n + 1)) least p before
      (n, omega arith, passes, is)
      (λ r w. elim (eq-or-lt_of_le {n = w.0} {m = n} (omega (arith, w.1))) [
        | inl same ↦ inl (λ b. not_itself p.sites (subst (λ s. IsBefore s p.sites) (sym w.3 ∙ ap (λ k. get_or places k []) same ∙ is) b))
        | inr below ↦ inr (w.0, below, w.2, w.3)
      ])
      picked_before

  picked_no_more : test n ≡ false → (q : Sites) → IsPicked test places (n + 1) q → IsPicked test places n q
  picked_no_more fails q w = elim (eq-or-lt_of_le {n = w.0} {m = n} (omega (arith, w.1))) [
    | inl same ↦ no_flag (sym fails ∙ ap test (sym same) ∙ w.2)
    | inr below ↦ (w.0, below, w.2, w.3)
  ]

  pub picked_no : (least : Option Place) → test n ≡ false → IsLeastOf (IsPicked test places n) least → IsLeastOf (IsPicked test places (n + 1)) least
  picked_no Nothing fails before = λ q w. before q (picked_no_more fails q w)
  picked_no (Some p) fails before = (picked_before p.sites before.0, λ q w. before.1 q (picked_no_more fails q w))
