-- Where numbers stand among some.
use Rattle.std.proofs.Common.{◌≡◌, inl, inr, ℕ, zero, suc, ◌+◌, ◌-◌, ◌<◌, ◌≤◌, ◌^◌, List, [], ◌∷◌, map, length, get_or, replicate, set, refl, sym, ◌∙◌, ap}
use Rattle.std.proofs.Common.{subst, arith, length-set, get_or-set_same, get_or-set_other}
use Rattle.std.proofs.{lemmas.Bool.cases_eq, lemmas.List.get_or_default, lemmas.List.get_or-map, lemmas.List.length-map, lemmas.List.length-replicate}
use Rattle.std.specs.{Prelude.min, List.Contains}
use Rattle.rv_tree.specs.Places.{Sites, index_of}
use Rattle.rv_types.specs.{Needs.IsBefore, Lists.AreRising}
use Rattle.rv_instances.specs.Flowing.{place_at}
use Rattle.rv_flatten.specs.Positions.{AreNumbersOf, told}
use Rattle.rv_flat.proofs.PlaceNumbers.{its_number}
use Rattle.rv_types.proofs.{Members.at_head, Members.in_tail, DifferentPlaces.rest_of, PlaceOrders.not_itself}

-- no two elements are equal
abbrev Apart : {X : Type 0} → List X → Type 0
Apart [] = Unit {0}
Apart (x ∷ xs) = (Contains xs x → ⊥) × Apart xs

apart_of : {X : Type 0} (xs : List X) (d : X) → ((j k : ℕ) → j < k → k < length xs → get_or xs j d ≡ get_or xs k d → ⊥) → Apart xs
apart_of [] d once = tt
apart_of (x ∷ xs) d once = (
  λ w. once 0 (suc w.0) (omega arith) (omega (arith, w.1)) (sym (get_or_default xs w.0 d x w.1 ∙ w.2)),
  apart_of xs d (λ j k lt less e. once (suc j) (suc k) (omega (arith, lt)) (omega (arith, less)) e),
)

-- different elements of a list are no more than that has
no_longer : {X : Type 0} (xs ys : List X) → Apart xs → ((z : X) → Contains xs z → Contains ys z) → length xs ≤ length ys
no_longer [] ys apart sub = omega arith
no_longer (x ∷ xs) ys apart sub =
    let r = rest_of ys x (sub x (at_head x xs)) in
    let less = no_longer xs r.0 apart.1 (λ z w. r.2 z (sub z (in_tail x xs z w)) (λ e. apart.0 (subst (Contains xs) e w))) in
    omega (arith, less, r.1)

-- the numbers below a count
abbrev below : ℕ → List ℕ
below zero = []
below (suc n) = n ∷ below n

below_size : (n : ℕ) → length (below n) ≡ n
below_size zero = refl
below_size (suc n) = ap suc (below_size n)

below_all : (n k : ℕ) → k < n → Contains (below n) k
below_all zero k lt = absurd (omega (arith, lt))
below_all (suc n) k lt = elim (cases_eq k n) [
  | inl same ↦ subst (λ j. Contains (n ∷ below n) j) (sym same) (at_head n (below n))
  | inr other ↦ in_tail n (below n) k (below_all n k (omega (arith, lt, other)))
]

few_numbers : (ns : List ℕ) (count : ℕ) → Apart ns → ((k : ℕ) → Contains ns k → k < count) → length ns ≤ count
few_numbers ns count apart within = omega (arith, no_longer ns (below count) apart (λ k w. below_all count k (within k w)), below_size count)

-- What is told of other numbers changes nothing at one.
told_other : (at : List ℕ) (j : ℕ) (ns : List ℕ) (k : ℕ) → (Contains ns k → ⊥) → get_or (told at j ns) k 0 ≡ get_or at k 0
told_other at j [] k none = refl
told_other at j (n ∷ ns) k none =
    told_other (set at n j) (min (j + 1) (2 ^ 32 - 1)) ns k (λ w. none (in_tail n ns k w))
    ∙ get_or-set_other at n k j 0 (λ e. none (subst (λ m. Contains (m ∷ ns) k) e (at_head k ns)))

-- Each of different numbers has where it stands.
told_at : (at : List ℕ) (j : ℕ) (ns : List ℕ) → Apart ns → (i : ℕ) → i < length ns → get_or ns i 0 < length at → j + length ns ≤ 2 ^ 32
    → get_or (told at j ns) (get_or ns i 0) 0 ≡ j + i
told_at at j [] apart i lt within few = absurd (omega (arith, lt))
told_at at j (n ∷ ns) apart zero lt within few =
    told_other (set at n j) (min (j + 1) (2 ^ 32 - 1)) ns n apart.0 ∙ get_or-set_same at n j 0 within ∙ (let e : j ≡ j + 0 = omega arith in e)
told_at at j (n ∷ ns) apart (suc i) lt within few =
    let size = length-set at n j in
    let less : i < length ns = omega (arith, lt) in
    told_at (set at n j) (min (j + 1) (2 ^ 32 - 1)) ns apart.1 i less (omega (arith, within, size)) (omega (arith, few)) ∙ next (length ns) i less few
  where
    next : (m i : ℕ) → i < m → j + suc m ≤ 2 ^ 32 → min (j + 1) (2 ^ 32 - 1) + i ≡ j + suc i
    next m i less few = omega (arith, less, few)

-- places that rise are different
module _ (ps : List Sites) (rising : AreRising ps) where
  once : (j k : ℕ) → j < k → k < length ps → get_or ps j [] ≡ get_or ps k [] → ⊥
  once j k lt less e = not_itself (get_or ps k []) (subst (λ q. IsBefore q (get_or ps k [])) e (rising j k lt less))

  pub one_number : (j k : ℕ) → j < length ps → k < length ps → get_or ps j [] ≡ get_or ps k [] → j ≡ k
  one_number j k lt less e = sym (its_number ps once j lt) ∙ ap (index_of ps) e ∙ its_number ps once k less

-- Where each number stands that is that of a place of a sequence of different places.
module _ (places sequence : List Sites) (numbers : List ℕ) (rising : AreRising places) (few : length places < 2 ^ 32)
    (distinct : (j k : ℕ) → j < k → k < length sequence → get_or sequence j [] ≡ get_or sequence k [] → ⊥) (are : AreNumbersOf places sequence numbers) where
  apart : Apart numbers
  apart = apart_of numbers 0 (λ j k lt less e.
      let size = are.size in
      distinct j k lt (omega (arith, less, size)) (sym (are.each j (omega (arith, lt, less))).1 ∙ ap (place_at places) e ∙ (are.each k less).1))

  as_few : length numbers ≤ length places
  as_few = few_numbers numbers (length places) apart (λ k w.
      let e : get_or numbers w.0 0 ≡ k = get_or_default numbers w.0 0 k w.1 ∙ w.2 in
      omega (arith, (are.each w.0 w.1).0, e))

  pub stands_at : (first : ℕ) (at : List ℕ) → first ≤ 1 → at ≡ told (replicate (length places) 0) first numbers
      → (k : ℕ) → k < length places → Contains sequence (place_at places k) → get_or at k 0 ≡ first + index_of sequence (place_at places k)
  stands_at first at small is k lt w =
      let j = w.0 in let size = are.size in
      let less : j < length numbers = (omega (arith, w.1, size)) in
      let there : get_or sequence j [] ≡ place_at places k = get_or_default sequence j [] (place_at places k) w.1 ∙ w.2 in
      let each = are.each j less in
      let same : get_or numbers j 0 ≡ k = one_number places rising (get_or numbers j 0) k each.0 lt (each.1 ∙ there) in
      let most = as_few in
      let long : length (replicate {A = ℕ} (length places) 0) ≡ length places = length-replicate (length places) 0 in
      let within = each.0 in
      ap (λ l. get_or l k 0) is ∙ ap (λ n. get_or (told (replicate (length places) 0) first numbers) n 0) (sym same)
      ∙ told_at (replicate (length places) 0) first numbers apart j less (omega (arith, within, long)) (omega (arith, most, few, small))
      ∙ ap (λ n. first + n) (sym (its_number sequence distinct j w.1) ∙ ap (index_of sequence) there)

-- The ticks among places that rise.
pub ticks_stand : (places : List Sites) (ticks made : List ℕ) → AreRising places → length places < 2 ^ 32 → AreRising (map (place_at places) ticks)
    → ((k : ℕ) → Contains ticks k → k < length places)
    → made ≡ told (replicate (length places) 0) 1 ticks → (k : ℕ) → k < length places → Contains (map (place_at places) ticks) (place_at places k)
    → get_or made k 0 ≡ index_of (map (place_at places) ticks) (place_at places k) + 1
ticks_stand places ticks made rising few ordered within is k lt w =
    let qs = map (place_at places) ticks in let size = length-map ticks (place_at places) in
    let are : AreNumbersOf places qs ticks = record {
      size = sym size;
      each = λ j less. (
        within (get_or ticks j 0) (j, less, get_or_default ticks j (get_or ticks j 0) 0 less),
        sym (get_or-map (place_at places) ticks j 0 [] less),
      );
    } in
    stands_at places qs ticks rising few (once qs ordered) are 1 made (omega arith) is k lt w
    ∙ (let e : 1 + index_of qs (place_at places k) ≡ index_of qs (place_at places k) + 1 = omega arith in e)
