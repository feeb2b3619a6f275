-- The rows of a valuation of a case.
use Rattle.std.proofs.Common.{◌≡◌, ℕ, zero, suc, ◌+◌, ◌<◌, ◌≤◌, pos, List, [], ◌∷◌, ◌++◌, length, take, get_or, Some, None, slice_get, arith, refl, sym, ap}
use Rattle.std.proofs.Common.{◌∙◌, ◌⊎◌, inl, inr}
use Rattle.std.proofs.{lemmas.Bool.cases_lt, lemmas.List.take_more, lemmas.List.take_all, lemmas.List.append-nil, lemmas.Option.same_Some}
use Rattle.std.proofs.{lemmas.Option.slice_get-get_or, lemmas.Option.get_or_from_slice_get}
use Rattle.rv_diagram.specs.{Nodes.Valuation, declared.frozen.Frozen.Frozen}
use Rattle.rv_rows.specs.declared.linear.Row.{Row}
use Rattle.rv_proofs.specs.Systems.{System, rows_among, rows_of, held_row}
use Rattle.rv_proofs.specs.{Scopes.IsIn, Cases.AreCaseTests, Cases.IsCaseOf, Cases.AreCases, declared.report.Case.Case}

pub one_case : (s : System) (from : Frozen) (cases : List Case) (i j : ℕ) (b c : Case) (v : Valuation) → AreCases s from cases
    → slice_get cases i ≡ Some b → slice_get cases j ≡ Some c → IsIn b.condition v → IsIn c.condition v → b ≡ c
one_case s from cases i j b c v are at there first second =
    let same = are.apart i j b c v at there first second in
    same_Some b c (sym at ∙ ap (slice_get cases) same ∙ there)

pub nothing : Row
nothing = record { coefficients = []; bound = pos 0 }

module _ (s : System) (c : Case) (tests : AreCaseTests s c) (v : Valuation) (inside : IsIn c.condition v) where
  -- The first m tests of the case are those below n, and their rows are the rows among the first n tests.
  record AreFirst (n : ℕ) : Type 0 where
    taken : ℕ
    there : taken ≤ length c.tests
    rows : rows_among s v n ≡ take taken c.rows
    below : (i : ℕ) → i < taken → get_or c.tests i 0 < n
    above : (i : ℕ) → taken ≤ i → i < length c.tests → n ≤ get_or c.tests i 0

  -- the tests rise
  rise : (i j : ℕ) → i < j → j < length c.tests → get_or c.tests i 0 < get_or c.tests j 0
  rise i j l less = tests.rising i j (get_or c.tests i 0) (get_or c.tests j 0) l (slice_get-get_or c.tests i 0 (omega arith))
      (slice_get-get_or c.tests j 0 less)

  -- test n is the next one of the case
  present_next : (n : ℕ) (f : AreFirst n) → f.taken < length c.tests → get_or c.tests f.taken 0 ≡ n → AreFirst (suc n)
  present_next n f less is =
      let counts = tests.counts in
      let r = get_or c.rows f.taken nothing in
      let at = slice_get-get_or c.tests f.taken 0 less ∙ ap Some is in
      let row : s.row v n ≡ Some r = tests.present f.taken n r v at (slice_get-get_or c.rows f.taken nothing (omega arith)) inside in
      record {
        taken = f.taken + 1;
        there = omega arith;
        rows = ap (λ o. rows_among s v n ++ held_row o) row ∙ ap (λ rs. rs ++ r ∷ []) f.rows ∙ sym (take_more c.rows f.taken nothing (omega arith));
        below = λ i l. low i l (cases_lt i f.taken);
        above = λ i l less'. let more = rise f.taken i (omega arith) less' in omega arith;
      }
    where
      low : (i : ℕ) → i < f.taken + 1 → (i < f.taken) ⊎ (f.taken ≤ i) → get_or c.tests i 0 < suc n
      low i l (inl before) = let small = f.below i before in omega arith
      low i l (inr after) = let same : i ≡ f.taken = omega arith in let here : get_or c.tests i 0 ≡ n = ap (λ k. get_or c.tests k 0) same ∙ is in omega arith

  -- test n is none of the case
  absent_next : (n : ℕ) → n < s.tests → (f : AreFirst n) → ((i : ℕ) → i < length c.tests → get_or c.tests i 0 ≡ n → ⊥) → AreFirst (suc n)
  absent_next n known f none =
      let row : s.row v n ≡ None = tests.absent n v known (λ has. none has.0 has.1 (read has.0 has.1 ∙ has.2)) inside in
      record {
        taken = f.taken;
        there = f.there;
        rows = ap (λ o. rows_among s v n ++ held_row o) row ∙ append-nil (rows_among s v n) ∙ f.rows;
        below = λ i l. let small = f.below i l in omega arith;
        above = λ i l less. let large = f.above i l less in let apart = none i less in past (get_or c.tests i 0) large apart;
      }
    where
      read : (i : ℕ) → i < length c.tests → get_or c.tests i 0 ≡ get_or c.tests i n
      read i less = get_or_from_slice_get c.tests i (get_or c.tests i n) 0 (slice_get-get_or c.tests i n less)

      past : (k : ℕ) → n ≤ k → (k ≡ n → ⊥) → suc n ≤ k
      past k l apart = go (cases_lt n k)
        where
          go : (n < k) ⊎ (k ≤ n) → suc n ≤ k
          go (inl less) = omega arith
          go (inr more) = absurd (apart (omega arith))

  -- where the tests of the case that are left are above n, it is none of them
  not_listed : (n : ℕ) (f : AreFirst n) → (f.taken < length c.tests → n < get_or c.tests f.taken 0) → (i : ℕ) → i < length c.tests → get_or c.tests i 0 ≡ n → ⊥
  not_listed n f past i less is = go (cases_lt i f.taken)
    where
      later : f.taken ≤ i → (f.taken < i) ⊎ (i ≤ f.taken) → ⊥
      later l (inl after) = let more = rise f.taken i after less in let large = past (omega arith) in omega arith
      later l (inr at) = let same : i ≡ f.taken = omega arith in let here : get_or c.tests f.taken 0 ≡ n = ap (λ k. get_or c.tests k 0) (sym same)
          ∙ is in let large = past (omega arith) in omega arith

      go : (i < f.taken) ⊎ (f.taken ≤ i) → ⊥
      go (inl before) = let small = f.below i before in omega arith
      go (inr after) = later after (cases_lt f.taken i)

  step : (n : ℕ) → n < s.tests → AreFirst n → AreFirst (suc n)
  step n known f = go (cases_lt f.taken (length c.tests))
    where
      at : f.taken < length c.tests → (n < get_or c.tests f.taken 0) ⊎ (get_or c.tests f.taken 0 ≤ n) → AreFirst (suc n)
      at less (inl past) = absent_next n known f (not_listed n f (λ l. past))
      at less (inr here) = let large = f.above f.taken (omega arith) less in present_next n f less (omega arith)

      go : (f.taken < length c.tests) ⊎ (length c.tests ≤ f.taken) → AreFirst (suc n)
      go (inl less) = at less (cases_lt n (get_or c.tests f.taken 0))
      go (inr all) = absent_next n known f (not_listed n f (λ l. absurd (omega arith)))

  first : (n : ℕ) → n ≤ s.tests → AreFirst n
  first zero l = record { taken = 0; there = omega arith; rows = refl; below = λ i less. absurd (omega arith); above = λ i less there. omega arith }
  first (suc n) l = step n (omega arith) (first n (omega arith))

  all_rows : rows_of s v ≡ c.rows
  all_rows = go (first s.tests (omega arith))
    where
      go : AreFirst s.tests → rows_of s v ≡ c.rows
      go f =
          let counts = tests.counts in
          f.rows ∙ take_all f.taken c.rows (whole (cases_lt f.taken (length c.tests)))
        where
          whole : (f.taken < length c.tests) ⊎ (length c.tests ≤ f.taken) → length c.rows ≤ f.taken
          whole (inl less) =
              let large = f.above f.taken (omega arith) less in
              let known = tests.known f.taken (get_or c.tests f.taken 0) (slice_get-get_or c.tests f.taken 0 less) in
              absurd (omega arith)
          whole (inr all) = let counts = tests.counts in omega arith

pub case_rows : (s : System) (c : Case) (v : Valuation) → IsCaseOf s c → IsIn c.condition v → rows_of s v ≡ c.rows
case_rows s c v is inside = all_rows s c is.tests v inside
