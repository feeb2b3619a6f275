-- Places that were sorted, and of which only one of each was kept.
use Rattle.std.proofs.Common.{◌≡◌, ℕ, zero, suc, ◌<◌, Bool, true, nat_eq, List, [], ◌∷◌, length, refl, sym, ap, subst, arith, inl, inr, get_or}
use Rattle.std.proofs.lemmas.Cmp.{ranked, on_total, on_equiv, nat_list_cmp_total, nat_list_eq_equiv}
use Rattle.std.proofs.lemmas.List.Kept.{Contains-dedup, Contains-from_dedup, IsStrictlySortedBy-dedup}
use Rattle.std.proofs.lemmas.List.Sorted.{Contains-permutation, IsPermutation-sym}
use Rattle.std.specs.Ordering.{nat_cmp, ordering_then, eq_by_cmp, MatchOrdering}
use Rattle.std.specs.{Cmp.IsTotalOrder, Cmp.IsEquivalence, Cmp.unsigned_ties, Cmp.Lexicographic.slice_cmp, Cmp.Lexicographic.pointwise}
use Rattle.std.specs.{Cmp.Lexicographic.lists_ties, List.AllByRecursion, List.Contains, List.dedup, List.Sorted.IsPermutation, List.Sorted.IsSorted}
use Rattle.std.specs.{List.Sorted.IsStrictlySortedBy, declared.cmp.Ordering.Ordering, declared.cmp.Ordering.TheVariants.Less}
use Rattle.std.specs.{declared.cmp.Ordering.TheVariants.Equal, declared.cmp.Ordering.TheVariants.Greater}
use Rattle.rv_base.specs.declared.value.Place.{Place}
use Rattle.rv_tree.specs.Places.{Sites}
use Rattle.rv_types.specs.{Lists.AreRising, Lists.sites_of, Needs.IsBefore}
use Rattle.rv_meaning.specs.Remembered.{AreSorted}
use Rattle.rv_meaning.proofs.NameLemmas.{same_text}
use Rattle.rv_types.proofs.Members.{in_map}
use Rattle.rv_base.proofs.Lists.{from_map}

-- which of two places stands before the other
abbrev pub order : Place → Place → Ordering
order q r = slice_cmp nat_cmp q.sites r.sites

pub order_total : IsTotalOrder order
order_total = on_total (λ (q : Place). q.sites) nat_list_cmp_total

-- what is less stands before
before_less : (q r : Sites) → slice_cmp nat_cmp q r ≡ Less → IsBefore q r
before_less [] [] e = cc
before_less [] (y ∷ ys) e = tt
before_less (x ∷ xs) [] e = cc
before_less (x ∷ xs) (y ∷ ys) e = tested (nat_cmp x y) (ranked x y (nat_cmp x y) refl) e (before_less xs ys)
  where
    tested : (o : Ordering) → MatchOrdering o (x < y) (x ≡ y) (y < x) → ordering_then o (slice_cmp nat_cmp xs ys) ≡ Less
        → (slice_cmp nat_cmp xs ys ≡ Less → IsBefore xs ys) → IsBefore (x ∷ xs) (y ∷ ys)
    tested Less is e again = inl is
    tested Equal is e again = inr (is, again e)
    tested Greater is e again = cc

-- the first of places in order stands before all others
before_rest : (q : Place) (rs : List Place) → AllByRecursion (λ r. order q r ≡ Less) rs → (k : ℕ) → k < length (sites_of rs)
    → IsBefore q.sites (get_or (sites_of rs) k [])
before_rest q [] a k lt = absurd (omega arith)
before_rest q (r ∷ rs) a zero lt = before_less q.sites r.sites a.0
before_rest q (r ∷ rs) a (suc k) lt = before_rest q rs a.1 k (omega arith)

-- places that are strictly sorted rise
rising : (qs : List Place) → IsStrictlySortedBy order qs → AreRising (sites_of qs)
unfolding IsStrictlySortedBy
rising [] s j k lt within = absurd (omega arith)
rising (q ∷ qs) s j zero lt within = absurd (omega arith)
rising (q ∷ qs) s zero (suc k) lt within = before_rest q qs s.0 k (omega arith)
rising (q ∷ qs) s (suc j) (suc k) lt within = rising qs s.1 j k (omega arith) (omega arith)

-- whether two places have the same sites
abbrev pub same : Place → Place → Bool
same q r = pointwise nat_eq q.sites r.sites

-- they have where none is less
place_ties : (q r : Place) → same q r ≡ eq_by_cmp order q r
place_ties q r = lists_ties nat_cmp unsigned_ties q.sites r.sites

-- and then they are equal
same_places : (q r : Place) → same q r ≡ true → q ≡ r
same_places q r e = ap (λ (s : Sites). record { sites = s }) (same_text q.sites r.sites e)

place_equivalence : IsEquivalence same
place_equivalence = on_equiv (λ (q : Place). q.sites) nat_list_eq_equiv

-- what is in a list has its sites among those of the list
in_sites : (qs : List Place) (q : Place) (r : Sites) → Contains qs q → q.sites ≡ r → Contains (sites_of qs) r
in_sites qs q r w e = subst (λ (s : Sites). Contains (sites_of qs) s) e (in_map (λ (q : Place). q.sites) qs q w)

-- places that were sorted, of which then only one of each was kept, are the same places in order
pub are_sorted : (places given up kept : List Place) → given ≡ places → IsPermutation given up → IsSorted order up → kept ≡ dedup same up
    → AreSorted places kept
are_sorted places given up kept is moved rises once = record {
  rising = subst (λ (l : List Place). AreRising (sites_of l)) (sym once) (rising (dedup same up) (IsStrictlySortedBy-dedup order_total place_ties up rises));
  all = λ r w.
      let v = from_map (λ (q : Place). q.sites) places r w in
      let there = Contains-permutation given up v.0 moved (subst (λ (l : List Place). Contains l v.0) (sym is) v.1) in
      in_sites kept v.0 r (subst (λ (l : List Place). Contains l v.0) (sym once) (Contains-dedup place_equivalence same_places up v.0 there)) v.2;
  only = λ r w.
      let v = from_map (λ (q : Place). q.sites) kept r w in
      let there = Contains-from_dedup same up v.0 (subst (λ (l : List Place). Contains l v.0) once v.1) in
      in_sites places v.0 r (subst (λ (l : List Place). Contains l v.0) is (Contains-permutation up given v.0 (IsPermutation-sym given up moved) there)) v.2;
}
