-- Pairs of places, and what none, one or two premises show.
use Rattle.std.proofs.Common.{◌≡◌, ℕ, zero, suc, ◌+◌, ◌≤◌, ◌<◌, ℤ, pos, negsuc, ◌+ℤ◌, ◌≤ℤ◌, List, [], ◌∷◌, ◌++◌, All, length, slice_get, None, unwrap_or, Bool}
use Rattle.std.proofs.Common.{true, false, nat_lt, append-nil, zero-le, arith, refl, ap, sym, ◌∙◌, ◌⊎◌, inl, inr}
use Rattle.std.proofs.{lemmas.Int.ints, Math.IntN.*ℤ-zero, lemmas.Bool.cases_lt, lemmas.Bool.Decides.nat_tests, lemmas.List.get_or_past}
use Rattle.std.proofs.{lemmas.Option.unwrap_or-slice_get, lemmas.List.Elements.All-nil, lemmas.List.Elements.All-cons, lemmas.List.Elements.All-append}
use Rattle.rv_rows.specs.Multipliers.{weighted, Proves, Refutes, ShowsAtOnce, by_none, by_one, by_two}
use Rattle.rv_rows.specs.{declared.linear.Row.Row, declared.farkas.Weight.Weight, declared.farkas.Multipliers.Multipliers, Rows.coefficient, Rows.row_at}
use Rattle.rv_seek.specs.Pairs.{PairShows, HasRanges, WeightInRange, IsRising, unit_at}

pub row_none : (rows : List Row) (i : ℕ) → None ≡ slice_get rows i → record { coefficients = []; bound = pos 0 } ≡ row_at rows i
row_none rows i e = ap (λ o. unwrap_or o (record { coefficients = []; bound = pos 0 })) e
    ∙ unwrap_or-slice_get rows i (record { coefficients = []; bound = pos 0 })

row_past : (rows : List Row) (i : ℕ) → length rows ≤ i → row_at rows i ≡ record { coefficients = []; bound = pos 0 }
row_past rows i h = get_or_past rows i (record { coefficients = []; bound = pos 0 }) h

pub pair_from : (rows : List Row) (wanted : Row) → ShowsAtOnce rows wanted
    → (i : ℕ) × (j : ℕ) × (i < j) × (j < length rows + 2) × PairShows rows wanted i j
pair_from rows wanted (by_none sides bound) = (
  length rows,
  length rows + 1,
  omega arith,
  omega arith,
  record {
    sides = λ k. rw (row_past rows (length rows) (omega arith), row_past rows (length rows + 1) (omega arith)) (sides k);
    bounds = rw (row_past rows (length rows) (omega arith), row_past rows (length rows + 1) (omega arith)) bound;
  },
)
pair_from rows wanted (by_one i l sides bound) = (
  i,
  length rows,
  l,
  omega arith,
  record {
    sides = λ k. rw (row_past rows (length rows) (omega arith)) (sides k ∙ omega (arith, ints));
    bounds = rw (row_past rows (length rows) (omega arith)) (omega (arith, ints));
  },
)
pair_from rows wanted (by_two i j l m sides bound) = (i, j, l, omega arith, record { sides = sides; bounds = bound })

not_below : (i n : ℕ) → i < n → nat_lt i n ≡ false → ⊥
not_below i n h e = grind (arith, nat_tests)

-- the weight 1 at a place
weighted-unit : (f : Row → ℤ) (rows : List Row) (i : ℕ) (ws : List Weight) → f (record { coefficients = []; bound = pos 0 }) ≡ pos 0
    → weighted f rows (unit_at (length rows) i ++ ws) ≡ f (row_at rows i) +ℤ weighted f rows ws
weighted-unit f rows i ws z = go (nat_lt i (length rows)) refl (cases_lt i (length rows))
  where
    go : (b : Bool) → nat_lt i (length rows) ≡ b → (i < length rows) ⊎ (length rows ≤ i)
        → weighted f rows (unit_at (length rows) i ++ ws) ≡ f (row_at rows i) +ℤ weighted f rows ws
    go true e c = rw e (omega (arith, ints))
    go false e (inl l) = absurd (not_below i (length rows) l e)
    go false e (inr l) = rw (e, row_past rows i l, z) (omega (arith, ints))

weighted-pair : (f : Row → ℤ) (rows : List Row) (i j : ℕ) → f (record { coefficients = []; bound = pos 0 }) ≡ pos 0
    → weighted f rows (unit_at (length rows) i ++ unit_at (length rows) j) ≡ f (row_at rows i) +ℤ f (row_at rows j)
weighted-pair f rows i j z =
    let e = weighted-unit f rows i (unit_at (length rows) j) z in
    let g = weighted-unit f rows j [] z in
    let h : weighted f rows (unit_at (length rows) j) ≡ weighted f rows (unit_at (length rows) j ++ []) = ap (weighted f rows)
    (sym (append-nil (unit_at (length rows) j))) in
    let n : weighted f rows [] ≡ pos 0 = refl in
    omega (arith, ints, e, g, h, n)

-- the bounds of a pair, weighed
pub pair_weighs : (rows : List Row) (i j : ℕ) (ws : List Weight) → ws ≡ unit_at (length rows) i ++ unit_at (length rows) j
    → weighted (λ r. r.bound) rows ws ≡ (row_at rows i).bound +ℤ (row_at rows j).bound
pair_weighs rows i j ws is = rw is (weighted-pair (λ r. r.bound) rows i j refl)

pub pair_proves : (rows : List Row) (wanted : Row) (i j : ℕ) (ws : List Weight) → ws ≡ unit_at (length rows) i ++ unit_at (length rows) j
    → PairShows rows wanted i j → Proves rows wanted (record { divisor = pos 1; weights = ws })
pair_proves rows wanted i j ws is p = rw is (record {
  positive = omega (arith, ints);
  none_negative = All-append (λ w. pos 0 ≤ℤ w.by) (unit_at (length rows) i) (unit_at (length rows) j) (unit_ok i) (unit_ok j);
  sides = λ k. let e = weighted-pair (coefficient k) rows i j refl in let s = p.sides k in omega (arith, ints, e, s);
  bounds = let e = weighted-pair (λ r. r.bound) rows i j refl in let b = p.bounds in omega (arith, ints, e, b);
})
  where
    unit_ok : (m : ℕ) → All (λ w. pos 0 ≤ℤ w.by) (unit_at (length rows) m)
    unit_ok m = go (nat_lt m (length rows)) refl
      where
        go : (b : Bool) → nat_lt m (length rows) ≡ b → All (λ w. pos 0 ≤ℤ w.by) (unit_at (length rows) m)
        go true e = rw e (All-cons (λ w. pos 0 ≤ℤ w.by) (record { premise = m; by = pos 1 }) [] (omega (arith, ints)) (All-nil (λ w. pos 0 ≤ℤ w.by)))
        go false e = rw e (All-nil (λ w. pos 0 ≤ℤ w.by))

pub refutes_from : (rows : List Row) (m : Multipliers) → m.divisor ≡ pos 1 → Proves rows (record { coefficients = []; bound = negsuc 0 }) m → Refutes rows m
refutes_from rows m one p = record {
  divisor = one;
  none_negative = p.none_negative;
  sides = λ k. p.sides k ∙ *ℤ-zero m.divisor;
  bounds = let b = p.bounds in let z = *ℤ-zero m.divisor in rw z at b;
}

is_below : (i n : ℕ) → nat_lt i n ≡ true → i < n
is_below i n e = grind (arith, nat_tests)

rising-none : IsRising []
rising-none i j d l m = absurd (omega arith)

rising-one : (a : Weight) → IsRising (a ∷ [])
rising-one a i j d l m = absurd (omega arith)

rising-two : (a b : Weight) → a.premise < b.premise → IsRising (a ∷ b ∷ [])
rising-two a b h zero zero d l m = absurd (omega arith)
rising-two a b h zero (suc zero) d l m = h
rising-two a b h zero (suc (suc j)) d l m = absurd (omega arith)
rising-two a b h (suc i) j d l m = absurd (omega arith)

-- the weight 1 on one or two premises is in range
pub pair_ranges : (n i j : ℕ) (ws : List Weight) → ws ≡ unit_at n i ++ unit_at n j → i < j → HasRanges n (record { divisor = pos 1; weights = ws })
pair_ranges n i j ws is l = rw is (go (nat_lt i n) (nat_lt j n) refl refl)
  where
    unit_fits : (m : ℕ) → nat_lt m n ≡ true → WeightInRange n (record { premise = m; by = pos 1 })
    unit_fits m e = record { positive = omega (arith, ints); most = omega (arith, ints); premise = is_below m n e }

    go : (b c : Bool) → nat_lt i n ≡ b → nat_lt j n ≡ c → HasRanges n (record { divisor = pos 1; weights = unit_at n i ++ unit_at n j })
    go true true e f = rw (e, f) (record {
      positive = omega (arith, ints);
      divisor = omega (arith, ints);
      most = omega arith;
      weights = All-cons (WeightInRange n) (record { premise = i; by = pos 1 }) (record { premise = j; by = pos 1 } ∷ []) (unit_fits i e)
          (All-cons (WeightInRange n) (record { premise = j; by = pos 1 }) [] (unit_fits j f) (All-nil (WeightInRange n)));
      rising = rising-two (record { premise = i; by = pos 1 }) (record { premise = j; by = pos 1 }) l;
    })
    go true false e f = rw (e, f) (record {
      positive = omega (arith, ints);
      divisor = omega (arith, ints);
      most = omega arith;
      weights = All-cons (WeightInRange n) (record { premise = i; by = pos 1 }) [] (unit_fits i e) (All-nil (WeightInRange n));
      rising = rising-one (record { premise = i; by = pos 1 });
    })
    go false true e f = rw (e, f) (record {
      positive = omega (arith, ints);
      divisor = omega (arith, ints);
      most = omega arith;
      weights = All-cons (WeightInRange n) (record { premise = j; by = pos 1 }) [] (unit_fits j f) (All-nil (WeightInRange n));
      rising = rising-one (record { premise = j; by = pos 1 });
    })
    go false false e f = rw (e, f) (record {
      positive = omega (arith, ints);
      divisor = omega (arith, ints);
      most = omega arith;
      weights = All-nil (WeightInRange n);
      rising = rising-none;
    })

-- the bound of a place is small
pub row_width : (n : ℕ) (rows : List Row) → All (λ r. length r.coefficients ≤ n) rows → (i : ℕ) → length (row_at rows i).coefficients ≤ n
row_width n rows h i = go (cases_lt i (length rows))
  where
    go : (i < length rows) ⊎ (length rows ≤ i) → length (row_at rows i).coefficients ≤ n
    go (inl l) = h i (record { coefficients = []; bound = pos 0 }) l
    go (inr l) = rw (row_past rows i l) zero-le
