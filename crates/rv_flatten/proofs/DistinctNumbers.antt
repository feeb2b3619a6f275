-- The numbers of a sorted list, each once.
use Rattle.std.proofs.Common.{◌≡◌, ◌⊎◌, inl, inr, ℕ, zero, suc, ◌+◌, ◌-◌, ◌<◌, ℤ, pos, ◌<ℤ◌, ◌≤ℤ◌, Bool, true, false, cond, List, [], ◌∷◌, ◌++◌, length}
use Rattle.std.proofs.Common.{get_or, take, slice_get, nat_eq, SFits, to_z, of_z, refl, sym, ◌∙◌, ap, subst, arith, Some}
use Rattle.std.proofs.lemmas.List.{take_more, length_push, get_or_push, get_or_append_left, get_or_default}
use Rattle.std.proofs.{lemmas.Bool.cases_eq, lemmas.Bool.cases_order, lemmas.Bool.eqb-true, lemmas.Bool.eq-eqb, lemmas.Int.ints, lemmas.Int.by_lt_z}
use Rattle.std.proofs.{lemmas.Int.to_z-of_z, lemmas.List.Elements.Contains-append_left, lemmas.List.Elements.Contains-push}
use Rattle.std.proofs.{lemmas.List.Elements.Contains-push_cases, lemmas.Option.none-some, lemmas.Option.same_Some}
use Rattle.std.specs.{Int.w128, List.Contains, List.Sorted.IsSorted, Ordering.int_cmp, Ordering.int_eq, Ordering.is_lt}
use Rattle.rv_flatten.specs.Literals.{is_last, with_new, IsDistinctOf}
use Rattle.rv_types.proofs.ChainLaws.{no_flag}

-- the last of some numbers
abbrev pub last_of : List ℤ → ℤ
last_of ys = get_or ys (length ys - 1) (pos 0)

same_number : (y z : ℤ) → int_eq y z ≡ true → y ≡ z
same_number y z e = grind (arith, ints, e)

other_number : (y z : ℤ) → int_eq y z ≡ false → y ≡ z → ⊥
other_number y z e is = grind (arith, ints, e, is)

last_shifted : (y x : ℤ) (xs : List ℤ) → last_of (y ∷ x ∷ xs) ≡ last_of (x ∷ xs)
last_shifted y x xs = let k : suc (suc (length xs)) - 1 ≡ suc (suc (length xs) - 1) = omega arith in ap (λ n. get_or (y ∷ x ∷ xs) n (pos 0)) k

pub last_told : (ys : List ℤ) (z : ℤ) → is_last ys z ≡ true → (0 < length ys) × (last_of ys ≡ z)
last_told [] z e = no_flag e
last_told (y ∷ []) z e = (omega arith, same_number y z e)
last_told (y ∷ x ∷ xs) z e = (omega arith, last_shifted y x xs ∙ (last_told (x ∷ xs) z e).1)

pub not_last : (ys : List ℤ) (z : ℤ) → is_last ys z ≡ false → 0 < length ys → last_of ys ≡ z → ⊥
not_last [] z e lt is = absurd (omega (arith, lt))
not_last (y ∷ []) z e lt is = other_number y z e is
not_last (y ∷ x ∷ xs) z e lt is = not_last (x ∷ xs) z e (omega arith) (sym (last_shifted y x xs) ∙ is)

-- the code's test of the last
pub last_is : (ys : List ℤ) (v z : ℤ) → slice_get ys (length ys - 1) ≡ Some v → is_last ys z ≡ int_eq v z
last_is [] v z e = absurd (none-some v e)
last_is (y ∷ []) v z e = ap (λ u. int_eq u z) (same_Some y v e)
last_is (y ∷ x ∷ xs) v z e = let k : suc (suc (length xs)) - 1 ≡ suc (suc (length xs) - 1) = omega arith in
    last_is (x ∷ xs) v z (sym (ap (slice_get (y ∷ x ∷ xs)) k) ∙ e)

-- integers that fit are equal where their bits are
pub bits_equal : (y z : ℤ) → SFits w128 y → SFits w128 z → nat_eq (of_z w128 y) (of_z w128 z) ≡ int_eq y z
bits_equal y z f g = by (nat_eq (of_z w128 y) (of_z w128 z)) refl
  where
    same_there : (y z : ℤ) → y ≡ z → true ≡ int_eq y z
    same_there y z e = grind (arith, ints, e)

    other_there : (y z : ℤ) → (y ≡ z → ⊥) → false ≡ int_eq y z
    other_there y z n = grind (arith, ints, n)

    by : (b : Bool) → nat_eq (of_z w128 y) (of_z w128 z) ≡ b → b ≡ int_eq y z
    by true e = same_there y z (sym (to_z-of_z w128 y f) ∙ ap (to_z w128) (eqb-true (of_z w128 y) (of_z w128 z) e) ∙ to_z-of_z w128 z g)
    by false e = other_there y z (λ same. no_flag (sym e ∙ eq-eqb (of_z w128 y) (of_z w128 z) (ap (of_z w128) same)))

-- neighbours in a sorted list
in_order : (y z : ℤ) → is_lt (int_cmp z y) ≡ false → y ≤ℤ z
in_order y z e = by_lt_z z y (λ lt. absurd (let bad : true ≡ false = grind (arith, ints, e, lt) in no_flag (sym bad))) (λ le. le)

-- The numbers of the first part of a sorted list, each once; the last of both is the same.
pub record IsDistinctSoFar (xs : List ℤ) (i : ℕ) (ys : List ℤ) : Type 0 where
  pub distinct : IsDistinctOf (take i xs) ys
  pub last : 0 < i → (0 < length ys) × (last_of ys ≡ get_or xs (i - 1) (pos 0))

below_last : (ys : List ℤ) → ((j k : ℕ) → j < k → k < length ys → get_or ys j (pos 0) <ℤ get_or ys k (pos 0)) → (j : ℕ) → j < length ys
    → get_or ys j (pos 0) ≤ℤ last_of ys
below_last ys rising j lt = elim (cases_eq j (length ys - 1)) [
  | inl same ↦ subst (λ k. get_or ys j (pos 0) ≤ℤ get_or ys k (pos 0)) same (omega (arith, ints))
  | inr other ↦ omega (arith, ints, rising j (length ys - 1) (omega (arith, lt, other)) (omega (arith, lt)))
]

pub one_more_distinct : (xs ys : List ℤ) (i : ℕ) (z : ℤ) → IsSorted int_cmp xs → i < length xs → z ≡ get_or xs i (pos 0) → IsDistinctSoFar xs i ys
    → IsDistinctSoFar xs (i + 1) (with_new ys z)
one_more_distinct xs ys i z sorted lt is so_far = by (is_last ys z) refl
  where
    longer : take (i + 1) xs ≡ take i xs ++ z ∷ []
    longer = take_more xs i (pos 0) lt ∙ ap (λ y. take i xs ++ y ∷ []) (sym is)

    above : 0 < i → last_of ys ≤ℤ z
    above some =
        let l = (so_far.last some).1 in
        let next : (i - 1) + 1 ≡ i = omega arith in
        let o = in_order (get_or xs (i - 1) (pos 0)) (get_or xs ((i - 1) + 1) (pos 0)) (sorted (i - 1) (pos 0) (omega arith) (omega (arith, lt))) in
        subst (λ y. y ≤ℤ z) (sym l) (subst (λ y. get_or xs (i - 1) (pos 0) ≤ℤ y) (ap (λ k. get_or xs k (pos 0)) next ∙ sym is) o)

    some_read : 0 < length ys → 0 < i
    some_read some = by_first i refl
      where
        by_first : (n : ℕ) → i ≡ n → 0 < i
        by_first zero e =
            let w = so_far.distinct.only (get_or ys 0 (pos 0)) (0, some, get_or_default ys 0 (get_or ys 0 (pos 0)) (pos 0) some) in
            let none : length (take i xs) ≡ 0 = ap (λ n. length (take n xs)) e in
            absurd (omega (arith, w.1, none))
        by_first (suc n) e = omega (arith, e)

    by : (b : Bool) → is_last ys z ≡ b → IsDistinctSoFar xs (i + 1) (cond b ys (ys ++ z ∷ []))
    by true e = record {
      distinct = record {
        rising = so_far.distinct.rising;
        all = λ y w. elim (Contains-push_cases (take i xs) z y (subst (λ l. Contains l y) longer w)) [
          | inl before ↦ so_far.distinct.all y before
          | inr same ↦ let t = last_told ys z e in
              (length ys - 1, omega (arith, t.0), get_or_default ys (length ys - 1) y (pos 0) (omega (arith, t.0)) ∙ t.1 ∙ same)
        ];
        only = λ y w. subst (λ l. Contains l y) (sym longer) (Contains-append_left (take i xs) (z ∷ []) y (so_far.distinct.only y w));
      };
      last = λ some. let t = last_told ys z e in (t.0, t.1 ∙ is ∙ ap (λ k. get_or xs k (pos 0)) (let k : i ≡ (i + 1) - 1 = omega arith in k));
    }
    by false e = record {
      distinct = record {
        rising = λ j k less within. pushed j k less within (cases_order k (length ys));
        all = λ y w. elim (Contains-push_cases (take i xs) z y (subst (λ l. Contains l y) longer w)) [
          | inl before ↦ Contains-append_left ys (z ∷ []) y (so_far.distinct.all y before)
          | inr same ↦ subst (Contains (ys ++ z ∷ [])) same (Contains-push ys z)
        ];
        only = λ y w. subst (λ l. Contains l y) (sym longer) (elim (Contains-push_cases ys z y w) [
          | inl before ↦ Contains-append_left (take i xs) (z ∷ []) y (so_far.distinct.only y before)
          | inr same ↦ subst (Contains (take i xs ++ z ∷ [])) same (Contains-push (take i xs) z)
        ]);
      };
      last = λ some. let long = length_push ys z in (
        omega (arith, long),
        get_or_push ys z (pos 0) (length (ys ++ z ∷ []) - 1) (omega (arith, long)) ∙ is
            ∙ ap (λ k. get_or xs k (pos 0)) (let k : i ≡ (i + 1) - 1 = omega arith in k),
      );
    }
      where
        pushed : (j k : ℕ) → j < k → k < length (ys ++ z ∷ []) → (k ≡ length ys) ⊎ ((k < length ys) ⊎ (length ys < k))
            → get_or (ys ++ z ∷ []) j (pos 0) <ℤ get_or (ys ++ z ∷ []) k (pos 0)
        pushed j k less within (inl at_end) =
            let lt' : j < length ys = omega (arith, less, at_end) in
            let old : get_or (ys ++ z ∷ []) j (pos 0) ≡ get_or ys j (pos 0) = get_or_append_left ys (z ∷ []) (pos 0) j lt' in
            let new : get_or (ys ++ z ∷ []) k (pos 0) ≡ z = get_or_push ys z (pos 0) k (sym at_end) in
            let below = below_last ys so_far.distinct.rising j lt' in
            let some : 0 < length ys = omega (arith, lt') in
            let le = above (some_read some) in
            let other : last_of ys ≡ z → ⊥ = not_last ys z e some in
            subst (λ y. y <ℤ get_or (ys ++ z ∷ []) k (pos 0)) (sym old)
            (subst (λ y. get_or ys j (pos 0) <ℤ y) (sym new) (strictly (get_or ys j (pos 0)) (last_of ys) z below le other))
          where
            strictly : (a b c : ℤ) → a ≤ℤ b → b ≤ℤ c → (b ≡ c → ⊥) → a <ℤ c
            strictly a b c p q n = by_lt_z b c (λ lt. omega (arith, ints, p, lt)) (λ ge. absurd (n (omega (arith, ints, q, ge))))
        pushed j k less within (inr (inl before)) =
            subst (λ y. y <ℤ get_or (ys ++ z ∷ []) k (pos 0)) (sym (get_or_append_left ys (z ∷ []) (pos 0) j (omega (arith, less, before))))
            (subst (λ y. get_or ys j (pos 0) <ℤ y) (sym (get_or_append_left ys (z ∷ []) (pos 0) k before)) (so_far.distinct.rising j k less before))
        pushed j k less within (inr (inr after)) = absurd (omega (arith, within, after, length_push ys z))
