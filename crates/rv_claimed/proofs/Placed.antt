-- Pairs of a case's premises as premises of a certificate, where each test has a number.
use Rattle.std.proofs.Common.{◌≡◌, ℕ, zero, suc, ◌+◌, ◌-◌, ◌<◌, ◌≤◌, ◌^◌, pos, negsuc, ◌≤ℤ◌, List, [], ◌∷◌, ◌++◌, length, get_or, Bool, true, false, nat_lt}
use Rattle.std.proofs.Common.{All, Some, slice_get, arith, refl, sym, ap, ◌∙◌, subst, ◌⊎◌, inl, inr}
use Rattle.std.proofs.lemmas.Option.{slice_get_within, slice_get-get_or, get_or_from_slice_get}
use Rattle.std.proofs.lemmas.List.{get_or_append_left, get_or-append-add, get_or_past, length-append, length_push, get_or_push}
use Rattle.std.proofs.lemmas.List.Elements.{All-nil, All-cons, All-append, All-contains, All-weaker}
use Rattle.std.proofs.{lemmas.Bool.cases_lt, lemmas.Bool.Decides.nat_tests}
use Rattle.rv_diagram.specs.Nodes.{Valuation}
use Rattle.rv_rows.specs.{declared.linear.Row.Row, declared.linear.Form.Form, declared.farkas.Weight.Weight, declared.farkas.Multipliers.Multipliers}
use Rattle.rv_rows.specs.{Rows.row_at, Forms.IsSubstituted, Multipliers.Proves}
use Rattle.rv_seek.specs.Pairs.{PairShows, HasRanges, WeightInRange, unit_at}
use Rattle.rv_seek.proofs.PairLemmas.{pair_proves, pair_ranges, refutes_from}
use Rattle.rv_proofs.specs.{Systems.System, Systems.updates_of, Scopes.IsIn, Ranges.IsRecord, Cases.IsCaseOf, declared.report.Case.Case}
use Rattle.rv_claims.specs.Certify.{NamesPresent, IsRefutedAt, IsShownAt}
use Rattle.rv_claimed.specs.Placing.{IsPlaced, IsPairOf, row_or_none, told_among, told_of}
use Rattle.rv_claimed.specs.Certifying.{premises_in, IsReached, IsShut}
use Rattle.rv_claimed.proofs.Pairing.{no_row}

-- the rows of tests, one for each
told_long : (s : System) (v : Valuation) (n : ℕ) → length (told_among s v n) ≡ n
told_long s v zero = refl
told_long s v (suc n) = omega (arith, length_push (told_among s v n) (row_or_none (s.row v n)), told_long s v n)

told_at : (s : System) (v : Valuation) (n t : ℕ) → t < n → row_at (told_among s v n) t ≡ row_or_none (s.row v t)
told_at s v zero t l = absurd (omega arith)
told_at s v (suc n) t l = go (λ h. told_at s v n t h) (cases_lt t n)
  where
    go : (t < n → row_at (told_among s v n) t ≡ row_or_none (s.row v t)) → (t < n) ⊎ (n ≤ t)
        → row_at (told_among s v n ++ row_or_none (s.row v n) ∷ []) t ≡ row_or_none (s.row v t)
    go before (inl h) =
        get_or_append_left (told_among s v n) (row_or_none (s.row v n) ∷ []) no_row t (omega (arith, told_long s v n, h)) ∙ before h
    go before (inr h) =
        let e : t ≡ n = omega (arith, h, l) in
        get_or_push (told_among s v n) (row_or_none (s.row v n)) no_row t (told_long s v n ∙ sym e) ∙ ap (λ (x : ℕ). row_or_none (s.row v x)) (sym e)

-- units
unit_below : (n i : ℕ) → nat_lt i n ≡ true → i < n
unit_below n i e = grind (arith, nat_tests)

unit_past : (n i : ℕ) → n ≤ i → unit_at n i ≡ []
unit_past n i l = go (nat_lt i n) refl
  where
    go : (b : Bool) → nat_lt i n ≡ b → unit_at n i ≡ []
    go true e = let m = unit_below n i e in absurd (omega arith)
    go false e = rw e refl

all_unit : (P : Weight → Type 0) (n i : ℕ) → (i < n → P (record { premise = i; by = pos 1 })) → All P (unit_at n i)
all_unit P n i h = go (nat_lt i n) refl
  where
    go : (b : Bool) → nat_lt i n ≡ b → All P (unit_at n i)
    go true e = rw e (All-cons P (record { premise = i; by = pos 1 }) [] (h (unit_below n i e)) (All-nil P))
    go false e = rw e (All-nil P)

-- the ranges of a document, said otherwise
ranges_record : (n : ℕ) (m : Multipliers) → HasRanges n m → IsRecord n m
ranges_record n m h = record {
  positive = h.positive;
  divisor = h.divisor;
  few = h.most;
  there = All-weaker (WeightInRange n) (λ (w : Weight). w.premise < n) (λ w r. r.premise) m.weights h.weights;
  weighted = All-weaker (WeightInRange n) (λ (w : Weight). (pos 1 ≤ℤ w.by) × (w.by ≤ℤ pos (2 ^ 41))) (λ w r. (r.positive, r.most)) m.weights h.weights;
  rising = λ i j u w less u_at w_at.
      let e = get_or_from_slice_get m.weights i u u u_at in
      let f = get_or_from_slice_get m.weights j w u w_at in
      let r = h.rising i j u less (slice_get_within m.weights j w w_at) in
      along (get_or m.weights i u) u (get_or m.weights j u) w e f r;
}
  where
    along : (a b c d : Weight) → a ≡ b → c ≡ d → a.premise < c.premise → b.premise < d.premise
    along a b c d e f l = omega (arith, ap (λ (x : Weight). x.premise) e, ap (λ (x : Weight). x.premise) f, l)

unit_record : (n i j : ℕ) → (i < j) ⊎ ((n ≤ i) × (n ≤ j)) → IsRecord n (record { divisor = pos 1; weights = unit_at n i ++ unit_at n j })
unit_record n i j (inl l) = ranges_record n _ (pair_ranges n i j (unit_at n i ++ unit_at n j) refl l)
unit_record n i j (inr (l, m)) =
    rw (unit_past n i l, unit_past n j m)
    (subst (λ (ws : List Weight). IsRecord n (record { divisor = pos 1; weights = ws })) none
    (ranges_record n _ (pair_ranges n n (n + 1) (unit_at n n ++ unit_at n (n + 1)) refl (omega arith))))
  where
    none : unit_at n n ++ unit_at n (n + 1) ≡ []
    none = rw (unit_past n n (omega arith), unit_past n (n + 1) (omega arith)) refl

module _ (s : System) (case : Case) (is : IsCaseOf s case) (v : Valuation) (on : IsIn case.condition v) (given : List Row) where
  abbrev told : List Row
  told = told_of s v

  abbrev here : List Row
  here = premises_in given case

  all_long : length (given ++ told) ≡ length given + s.tests
  all_long = length-append given told ∙ ap (λ (n : ℕ). length given + n) (told_long s v s.tests)

  here_long : length here ≡ length given + length case.tests
  here_long = let t = is.tests in length-append given case.rows ∙ ap (λ (n : ℕ). length given + n) t.counts

  -- where a place of the case's premises stands
  data Where (p q : ℕ) : Type 0 where
    in_given : p < length given → q ≡ p → Where p q
    in_test : (i t : ℕ) → p ≡ length given + i → slice_get case.tests i ≡ Some t → q ≡ length given + t → Where p q
    beyond : length given + length case.tests ≤ p → q ≡ length given + s.tests → Where p q

  locate : (p q : ℕ) → IsPlaced (length given) s.tests case.tests p q → Where p q
  locate p q x = go (cases_lt p (length given)) (cases_lt p (length given + length case.tests))
    where
      go : (p < length given) ⊎ (length given ≤ p) → (p < length given + length case.tests) ⊎ (length given + length case.tests ≤ p) → Where p q
      go (inl l) m = in_given l (x.given_row l)
      go (inr l) (inl m) =
          let i = p - length given in
          let e : p ≡ length given + i = omega (arith, l) in
          let at = slice_get-get_or case.tests i 0 (omega (arith, l, m)) in
          in_test i (get_or case.tests i 0) e at (x.test_row i (get_or case.tests i 0) e at)
      go (inr l) (inr m) = beyond m (x.past m)

  -- the row of a test that is present
  test_row : (i t : ℕ) → slice_get case.tests i ≡ Some t → (t < s.tests) × (s.row v t ≡ Some (row_at case.rows i))
  test_row i t at =
      let x = is.tests in
      let counts = x.counts in
      let inside : i < length case.tests = slice_get_within case.tests i t at in
      (x.known i t at, x.present i t (row_at case.rows i) v at (slice_get-get_or case.rows i no_row (omega (arith, counts, inside))) on)

  told_row : (i t : ℕ) → slice_get case.tests i ≡ Some t → row_at told t ≡ row_at case.rows i
  told_row i t at = let (known, present) = test_row i t at in told_at s v s.tests t known ∙ ap row_or_none present

  -- a premise and its row in the certificate
  placed_row : (p q : ℕ) → Where p q → row_at (given ++ told) q ≡ row_at here p
  placed_row p q (in_given l e) =
      ap (row_at (given ++ told)) e ∙ get_or_append_left given told no_row p l ∙ sym (get_or_append_left given case.rows no_row p l)
  placed_row p q (in_test i t e at f) =
      ap (row_at (given ++ told)) f ∙ get_or-append-add given told t no_row ∙ told_row i t at ∙ sym (get_or-append-add given case.rows i no_row)
      ∙ ap (row_at here) (sym e)
  placed_row p q (beyond l e) =
      get_or_past (given ++ told) q no_row (omega (arith, all_long, e)) ∙ sym (get_or_past here p no_row (omega (arith, here_long, l)))

  -- places rise as those of the case do
  rises : (i j p q : ℕ) → i < j → Where i p → Where j q → (p < q) ⊎ ((length given + s.tests ≤ p) × (length given + s.tests ≤ q))
  rises i j p q less (in_given l e) (in_given m f) = inl (omega (arith, less, e, f))
  rises i j p q less (in_given l e) (in_test k t m at f) = inl (omega (arith, l, e, f))
  rises i j p q less (in_given l e) (beyond m f) = inl (omega (arith, l, e, f))
  rises i j p q less (in_test k t l at e) (in_given m f) = absurd (omega (arith, less, l, m))
  rises i j p q less (in_test k t l at e) (in_test h u m there f) =
      let x = is.tests in
      let r = x.rising k h t u (omega (arith, less, l, m)) at there in
      inl (omega (arith, r, e, f))
  rises i j p q less (in_test k t l at e) (beyond m f) = let known = (test_row k t at).0 in inl (omega (arith, known, e, f))
  rises i j p q less (beyond l e) (in_given m f) = absurd (omega (arith, less, l, m))
  rises i j p q less (beyond l e) (in_test h u m there f) =
      let inside : h < length case.tests = slice_get_within case.tests h u there in absurd (omega (arith, less, l, m, inside))
  rises i j p q less (beyond l e) (beyond m f) = inr (omega (arith, e), omega (arith, f))

  -- a test that is named is present
  abbrev IsNamed : Weight → Type 0
  IsNamed w = (t : ℕ) → w.premise ≡ length given + t → (t < s.tests) × (s.row v t ≡ Some (row_at told t))

  named_at : (p q : ℕ) → Where p q → q < length given + s.tests → IsNamed (record { premise = q; by = pos 1 })
  named_at p q (in_given l e) inside t at = absurd (omega (arith, l, e, at))
  named_at p q (in_test i u l there e) inside t at =
      let same : u ≡ t = omega (arith, e, at) in
      let (known, present) = test_row i u there in
      subst (λ (x : ℕ). (x < s.tests) × (s.row v x ≡ Some (row_at told x))) same (known, present ∙ ap Some (sym (told_row i u there)))
  named_at p q (beyond l e) inside t at = absurd (omega (arith, e, inside))

  module _ (r : Row) (m : Multipliers) (pair : IsPairOf (length given) s.tests case.tests here r m) where
    abbrev a : ℕ
    a = pair.placed.first

    abbrev b : ℕ
    b = pair.placed.second

    abbrev weights : List Weight
    weights = unit_at (length given + s.tests) a ++ unit_at (length given + s.tests) b

    at_a : Where pair.first a
    at_a = let x = pair.placed in locate pair.first a x.is_first

    at_b : Where pair.second b
    at_b = let x = pair.placed in locate pair.second b x.is_second

    m_is : m ≡ record { divisor = pos 1; weights = weights }
    m_is = let x = pair.placed in x.is

    pub pair_divisor : m.divisor ≡ pos 1
    pair_divisor = ap (λ (x : Multipliers). x.divisor) m_is

    pub pair_record : IsRecord (length given + s.tests) m
    pair_record = subst (IsRecord (length given + s.tests)) (sym m_is) (unit_record (length given + s.tests) a b
        (rises pair.first pair.second a b pair.order at_a at_b))

    there_shows : PairShows (given ++ told) r a b
    there_shows = along (placed_row pair.first a at_a) (placed_row pair.second b at_b) pair.shows
      where
        along : row_at (given ++ told) a ≡ row_at here pair.first → row_at (given ++ told) b ≡ row_at here pair.second
            → PairShows here r pair.first pair.second → PairShows (given ++ told) r a b
        along e f p = record { sides = λ k. rw (e, f) (p.sides k); bounds = rw (e, f) p.bounds }

    pub pair_holds : Proves (given ++ told) r m
    pair_holds =
        subst (λ (x : Multipliers). Proves (given ++ told) r x) (sym m_is)
        (pair_proves (given ++ told) r a b weights (ap (λ (n : ℕ). unit_at n a ++ unit_at n b) (sym all_long)) there_shows)

    pub pair_named : NamesPresent s v (length given) m told
    pair_named = record {
      size = told_long s v s.tests;
      named = λ w t has at. All-contains IsNamed m.weights w all has t at;
    }
      where
        all : All IsNamed m.weights
        all = subst (λ (x : Multipliers). All IsNamed x.weights) (sym m_is)
            (All-append IsNamed (unit_at (length given + s.tests) a) (unit_at (length given + s.tests) b)
            (all_unit IsNamed (length given + s.tests) a (named_at pair.first a at_a))
            (all_unit IsNamed (length given + s.tests) b (named_at pair.second b at_b)))

  pub reached_shown : (r : Row) (m : Multipliers) → IsReached s.tests given case r m → IsShownAt s v given r m
  reached_shown r m (new, sub, pair) = (
    told,
    new,
    pair_named new m pair,
    sub_there,
    pair_holds new m pair,
  )
    where
      sub_there : IsSubstituted r (updates_of s v) new
      sub_there = subst (λ (fs : List Form). IsSubstituted r fs new) (sym (is.updates v on)) sub

  pub shut_refuted : (m : Multipliers) → IsShut s.tests given case m → IsRefutedAt s v given m
  shut_refuted m pair = (
    told,
    pair_named (record { coefficients = []; bound = negsuc 0 }) m pair,
    refutes_from (given ++ told) m (pair_divisor (record { coefficients = []; bound = negsuc 0 }) m pair)
        (pair_holds (record { coefficients = []; bound = negsuc 0 }) m pair),
  )
