-- What was sorted by places, and of which only one of each place was kept.
use Rattle.std.proofs.Common.{◌≡◌, ℕ, zero, suc, ◌<◌, Bool, List, [], ◌∷◌, map, length, sym, ap, subst, arith, get_or}
use Rattle.std.proofs.lemmas.Cmp.{on_total, on_equiv, nat_list_cmp_total, nat_list_eq_equiv}
use Rattle.std.proofs.lemmas.List.Kept.{Any-dedup, Contains-from_dedup, IsStrictlySortedBy-dedup}
use Rattle.std.proofs.lemmas.List.Sorted.{Contains-permutation, IsPermutation-sym}
use Rattle.std.specs.{Cmp.IsTotalOrder, Cmp.IsEquivalence, Cmp.Lexicographic.slice_cmp, Cmp.Lexicographic.texts_ties, List.AllByRecursion, List.Contains}
use Rattle.std.specs.{List.dedup, List.Sorted.IsPermutation, List.Sorted.IsSorted, List.Sorted.IsStrictlySortedBy, Ordering.nat_cmp, Ordering.eq_by_cmp}
use Rattle.std.specs.{Ordering.is_lt, declared.cmp.Ordering.Ordering, declared.cmp.Ordering.TheVariants.Less}
use Rattle.rv_tree.specs.Places.{Sites, is_same}
use Rattle.rv_types.specs.{Lists.AreRising, Needs.IsBefore}
use Rattle.rv_flatten.specs.NodeReaders.{AreSortedBy}
use Rattle.rv_flat.proofs.Earliest.{before_tested}
use Rattle.rv_meaning.proofs.NameLemmas.{same_text}

module _ {X : Type 0} (place : X → Sites) where
  -- which of two stands before the other
  abbrev pub order_by : X → X → Ordering
  order_by x y = slice_cmp nat_cmp (place x) (place y)

  -- whether two have one place
  abbrev pub same_by : X → X → Bool
  same_by x y = is_same (place x) (place y)

  pub order_total : IsTotalOrder order_by
  order_total = on_total place nat_list_cmp_total

  -- they have where none is less
  same_ties : (x y : X) → same_by x y ≡ eq_by_cmp order_by x y
  same_ties x y = texts_ties (place x) (place y)

  same_equivalence : IsEquivalence same_by
  same_equivalence = on_equiv place nat_list_eq_equiv

  before_less : (x y : X) → order_by x y ≡ Less → IsBefore (place x) (place y)
  before_less x y e = before_tested (place x) (place y) (ap is_lt e)

  -- the first of some in order stands before all others
  before_rest : (x : X) (ys : List X) → AllByRecursion (λ y. order_by x y ≡ Less) ys → (k : ℕ) → k < length (map place ys)
      → IsBefore (place x) (get_or (map place ys) k [])
  before_rest x [] a k lt = absurd (omega (arith, lt))
  before_rest x (y ∷ ys) a zero lt = before_less x y a.0
  before_rest x (y ∷ ys) a (suc k) lt = before_rest x ys a.1 k (omega (arith, lt))

  -- what is strictly sorted rises
  rising : (xs : List X) → IsStrictlySortedBy order_by xs → AreRising (map place xs)
  unfolding IsStrictlySortedBy
  rising [] s j k lt within = absurd (omega (arith, within))
  rising (x ∷ xs) s j zero lt within = absurd (omega (arith, lt))
  rising (x ∷ xs) s zero (suc k) lt within = before_rest x xs s.0 k (omega (arith, within))
  rising (x ∷ xs) s (suc j) (suc k) lt within = rising xs s.1 j k (omega (arith, lt)) (omega (arith, within))

  pub are_sorted : (found given up kept : List X) → given ≡ found → IsPermutation given up → IsSorted order_by up → kept ≡ dedup same_by up
      → AreSortedBy place found kept
  are_sorted found given up kept is moved rises once = record {
    rising = subst (λ (l : List X). AreRising (map place l)) (sym once) (rising (dedup same_by up) (IsStrictlySortedBy-dedup order_total same_ties up rises));
    all = λ x w.
        let there = Contains-permutation given up x moved (subst (λ (l : List X). Contains l x) (sym is) w) in
        let a = Any-dedup same_equivalence up x there in
        (a.1, subst (λ (l : List X). Contains l a.1) (sym once) (a.0, a.2, a.3), sym (same_text (place x) (place a.1) a.4));
    only = λ x w.
        let there = Contains-from_dedup same_by up x (subst (λ (l : List X). Contains l x) once w) in
        subst (λ (l : List X). Contains l x) is (Contains-permutation up given x (IsPermutation-sym given up moved) there);
  }
