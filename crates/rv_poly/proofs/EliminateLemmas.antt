-- Rows of the step of Fourier and Motzkin that are handed in one after the other.
use Rattle.std.proofs.Common.{◌≡◌, ◌⊎◌, ℕ, ◌+◌, ◌*◌, ◌≤◌, ◌<◌, ◌^◌, ℤ, pos, ◌+ℤ◌, ◌-ℤ◌, ◌*ℤ◌, ◌≤ℤ◌, ◌<ℤ◌, Bool, true, false, List, [], ◌∷◌, ◌++◌, length}
use Rattle.std.proofs.Common.{get_or, take, All, FitsSigned, arith, refl, ap, sym, ◌∙◌, subst, inl, inr}
use Rattle.std.proofs.lemmas.Int.{ints, unsigned_abs-mul, fits_signed_mul, fits_signed_from_abs}
use Rattle.std.proofs.lemmas.List.{length-append, length-take-le, length_push, get_or_default, get_or_past}
use Rattle.std.proofs.lemmas.List.Elements.{All-nil, All-append, All-contains, Contains-get_or, Contains-append_left, Contains-append_right}
use Rattle.std.proofs.lemmas.List.Elements.{Contains-append_cases, Contains-push, Contains-push_cases}
use Rattle.std.proofs.{lemmas.Bool.cases_lt, lemmas.Bool.Decides.Decides-int_eq, Math.Seq.take-length, Math.Nat.mul-le-mul, Math.Nat.mul-le-mul_right}
use Rattle.std.proofs.{lemmas.List.Sums.count_by_more_yes, lemmas.List.Sums.count_by_more_no, lemmas.List.Sums.count_by-le-length, Math.IntN.*ℤ-zero}
use Rattle.std.specs.{Prelude.int_lt, Prelude.T, Ordering.int_eq, List.Contains, List.count_by, Int.RustNames.unsigned_abs, Int.w128}
use Rattle.rv_rows.specs.{declared.linear.Row.Row, Rows.coefficient, Tight.Fits}
use Rattle.rv_poly.specs.Projection.{IsCombined, IsStepRow, free, pair, AreStepRows, HasStepRows}
use Rattle.rv_poly.specs.Elimination.{AreKept, IsFreeTaken, AreFreeTaken, IsPairTaken, ArePairsTaken, IsRowPaired, AreRowsPaired, IsRowWithin, positives}
use Rattle.rv_poly.specs.Elimination.{negatives, zeros}
use Rattle.rv_poly.specs.{declared.eliminate.Eliminated.Eliminated, Polys.IsPoly, Polys.rows_width}
use Rattle.rv_rows.proofs.IntLemmas.{abs-add}
use Rattle.rv_poly.proofs.ListLemmas.{one_width}

abbrev step_of : List Row → ℕ → Eliminated
step_of rows n = record { rows = rows; dropped = n }

none_in : (r : Row) → Contains [] r → ⊥
none_in r (k, l, e) = omega arith

pub kept-none : (e : Eliminated) → AreKept [] e e
kept-none e = record {
  known = λ r c. inl c;
  kept = λ r c. c;
  all = λ same r c. absurd (none_in r c);
  grows = omega arith;
  dropped = omega arith;
  size = omega arith;
  most = λ h. h;
  fits = λ h. h;
  room = λ f l. refl;
}

pub kept-more : (part piece : List Row) (a b c : Eliminated) → AreKept part a b → AreKept piece b c → AreKept (part ++ piece) a c
kept-more part piece a b c x y = record {
  known = λ r h. known r (y.known r h);
  kept = λ r h. y.kept r (x.kept r h);
  all = λ same r h.
      let u = x.grows in
      let v = y.grows in
      let first : b.dropped ≡ a.dropped = omega arith in
      let second : c.dropped ≡ b.dropped = omega arith in
      all first second r (Contains-append_cases part piece r h);
  grows = let u = x.grows in let v = y.grows in omega arith;
  dropped = let u = x.dropped in let v = y.dropped in let n = length-append part piece in omega arith;
  size = let u = x.size in let v = y.size in let n = length-append part piece in omega arith;
  most = λ h. y.most (x.most h);
  fits = λ h. y.fits (x.fits h);
  room = λ f l.
      let n = length-append part piece in
      let s = x.size in
      let one = x.room (left f) (omega arith) in
      let two = y.room (right f) (omega arith) in
      two ∙ one;
}
  where
    known : (r : Row) → Contains b.rows r ⊎ Contains piece r → Contains a.rows r ⊎ Contains (part ++ piece) r
    known r (inl h) = go (x.known r h)
      where
        go : Contains a.rows r ⊎ Contains part r → Contains a.rows r ⊎ Contains (part ++ piece) r
        go (inl k) = inl k
        go (inr k) = inr (Contains-append_left part piece r k)
    known r (inr h) = inr (Contains-append_right part piece r h)

    all : b.dropped ≡ a.dropped → c.dropped ≡ b.dropped → (r : Row) → Contains part r ⊎ Contains piece r → Contains c.rows r
    all first second r (inl h) = y.kept r (x.all first r h)
    all first second r (inr h) = y.all second r h

    left : All Fits (part ++ piece) → All Fits part
    left f k d l = let e = Contains-append_left part piece (get_or part k d) (Contains-get_or part k d l) in
        All-contains Fits (part ++ piece) (get_or part k d) f e

    right : All Fits (part ++ piece) → All Fits piece
    right f k d l = let e = Contains-append_right part piece (get_or piece k d) (Contains-get_or piece k d l) in
        All-contains Fits (part ++ piece) (get_or piece k d) f e

in_one : (r q : Row) → Contains (r ∷ []) q → r ≡ q
in_one r q h = go (Contains-push_cases [] r q h)
  where
    go : Contains [] q ⊎ (r ≡ q) → r ≡ q
    go (inl n) = absurd (none_in q n)
    go (inr e) = e

-- what holds of one more row than of n
one_more : (rows : List Row) (n i : ℕ) (d e : Row) (P : Row → Type 0) → n < length rows → i < n + 1 → (i < n → P (get_or rows i d)) → P (get_or rows n e)
    → P (get_or rows i d)
one_more rows n i d e P l m before here = go (cases_lt i n)
  where
    go : (i < n) ⊎ (n ≤ i) → P (get_or rows i d)
    go (inl b) = before b
    go (inr b) = let same : i ≡ n = omega arith in rw (same, get_or_default rows n d e l) here

lt_true : (a b : ℤ) → a <ℤ b → int_lt a b ≡ true
lt_true a b h = go (int_lt a b) h.lt
  where
    go : (t : Bool) → T t → t ≡ true
    go true x = refl
    go false x = absurd x

eq_true : (a b : ℤ) → a ≡ b → int_eq a b ≡ true
eq_true a b e = (Decides-int_eq a b).1 e

-- a count of one more row grows where the row passes
count_yes : (p : Row → Bool) (rows : List Row) (n m : ℕ) (d : Row) → n < length rows → p (get_or rows n d) ≡ true → m ≤ count_by p (take n rows)
    → m + 1 ≤ count_by p (take (n + 1) rows)
count_yes p rows n m d l e h = let x = count_by_more_yes p rows n d l e in omega arith

count_kept : (p : Row → Bool) (rows : List Row) (n m : ℕ) (d : Row) → n < length rows → m ≤ count_by p (take n rows) → m ≤ count_by p (take (n + 1) rows)
count_kept p rows n m d l h = go (p (get_or rows n d)) refl
  where
    go : (b : Bool) → p (get_or rows n d) ≡ b → m ≤ count_by p (take (n + 1) rows)
    go true e = let x = count_by_more_yes p rows n d l e in omega arith
    go false e = let x = count_by_more_no p rows n d l e in omega arith

pub number_within : (n : ℕ) (cs : List ℤ) → All (λ c. unsigned_abs c ≤ n) cs → (j : ℕ) → unsigned_abs (get_or cs j (pos 0)) ≤ n
number_within n cs h j = go (cases_lt j (length cs))
  where
    go : (j < length cs) ⊎ (length cs ≤ j) → unsigned_abs (get_or cs j (pos 0)) ≤ n
    go (inl l) = h j (pos 0) l
    go (inr l) = rw (get_or_past cs j (pos 0) l) (omega arith)

abs_opposite : (z : ℤ) → unsigned_abs (pos 0 -ℤ z) ≡ unsigned_abs z
abs_opposite z = omega (arith, ints)

pub product_small : (a b : ℤ) → unsigned_abs a ≤ 2 ^ 30 → unsigned_abs b ≤ 2 ^ 60 → unsigned_abs a * unsigned_abs b ≤ 2 ^ 90
product_small a b h k = let x = mul-le-mul h k in omega arith

pub product_fits : (a b : ℤ) → unsigned_abs a * unsigned_abs b ≤ 2 ^ 90 → FitsSigned w128 (a *ℤ b)
product_fits a b h = fits_signed_mul w128 a b (unsigned_abs a) (unsigned_abs b) (omega arith) (omega arith) (omega arith)

pub products_fit : (a x b y : ℤ) → unsigned_abs a * unsigned_abs x ≤ 2 ^ 90 → unsigned_abs b * unsigned_abs y ≤ 2 ^ 90 → FitsSigned w128 ((a *ℤ x) +ℤ (b *ℤ y))
products_fit a x b y h k =
    let p = unsigned_abs-mul a x in
    let q = unsigned_abs-mul b y in
    let s = abs-add (a *ℤ x) (b *ℤ y) in
    fits_signed_from_abs w128 ((a *ℤ x) +ℤ (b *ℤ y)) (omega arith)

pub opposite_fits : (z : ℤ) → unsigned_abs z ≤ 2 ^ 30 → FitsSigned w128 (pos 0 -ℤ z)
opposite_fits z h = let e = abs_opposite z in fits_signed_from_abs w128 (pos 0 -ℤ z) (omega arith)

pub opposite_small : (z : ℤ) → unsigned_abs z ≤ 2 ^ 30 → unsigned_abs (pos 0 -ℤ z) ≤ 2 ^ 30
opposite_small z h = rw (abs_opposite z) h

-- sums of two multiples that are right as far as the lists go
pub multiples-all : (by to : ℤ) (xs ys zs : List ℤ) → length ys ≡ length xs → length zs ≡ length xs
    → ((j : ℕ) → j < length xs → get_or zs j (pos 0) ≡ (by *ℤ get_or xs j (pos 0)) +ℤ (to *ℤ get_or ys j (pos 0)))
    → (j : ℕ) → get_or zs j (pos 0) ≡ (by *ℤ get_or xs j (pos 0)) +ℤ (to *ℤ get_or ys j (pos 0))
multiples-all by to xs ys zs e f h j = go (cases_lt j (length xs))
  where
    go : (j < length xs) ⊎ (length xs ≤ j) → get_or zs j (pos 0) ≡ (by *ℤ get_or xs j (pos 0)) +ℤ (to *ℤ get_or ys j (pos 0))
    go (inl l) = h j l
    go (inr l) =
        let a : length ys ≤ j = omega arith in
        let b : length zs ≤ j = omega arith in
        rw (get_or_past xs j (pos 0) l, get_or_past ys j (pos 0) a, get_or_past zs j (pos 0) b)
        (sym (ap (λ z. z +ℤ (to *ℤ pos 0)) (*ℤ-zero by) ∙ ap (λ z. pos 0 +ℤ z) (*ℤ-zero to)))

pub combined-made : (k : ℕ) (p q : Row) (cs : List ℤ) (n m b : ℤ) → n ≡ coefficient k q → m ≡ coefficient k p → length cs ≡ length p.coefficients
    → ((j : ℕ) → get_or cs j (pos 0) ≡ ((pos 0 -ℤ n) *ℤ coefficient j p) +ℤ (m *ℤ coefficient j q)) → b ≡ ((pos 0 -ℤ n) *ℤ p.bound) +ℤ (m *ℤ q.bound)
    → IsCombined k p q (record { coefficients = cs; bound = b })
combined-made k p q cs n m b e f w h g = record {
  width = w;
  coefficients = λ j. h j ∙ ap (λ z. ((pos 0 -ℤ z) *ℤ coefficient j p) +ℤ (m *ℤ coefficient j q)) e
      ∙ ap (λ z. ((pos 0 -ℤ coefficient k q) *ℤ coefficient j p) +ℤ (z *ℤ coefficient j q)) f;
  bound = g ∙ ap (λ z. ((pos 0 -ℤ z) *ℤ p.bound) +ℤ (m *ℤ q.bound)) e ∙ ap (λ z. ((pos 0 -ℤ coefficient k q) *ℤ p.bound) +ℤ (z *ℤ q.bound)) f;
}

module _ (k : ℕ) (rows : List Row) where
  pub free-none : (e : Eliminated) → AreFreeTaken k rows 0 e e
  free-none e = record {
    part = [];
    kept = kept-none e;
    known = λ r c. absurd (none_in r c);
    found = λ i d l m z. absurd (omega arith);
    count = omega arith;
  }

  pub free-more : (n : ℕ) (d : Row) (a b c : Eliminated) → AreFreeTaken k rows n a b → n < length rows → IsFreeTaken k (get_or rows n d) b c
      → AreFreeTaken k rows (n + 1) a c
  free-more n d a b c t l (inl x) = record {
    part = t.part ++ get_or rows n d ∷ [];
    kept = kept-more t.part (get_or rows n d ∷ []) a b c t.kept (x.1);
    known = λ r h. known r (Contains-append_cases t.part (get_or rows n d ∷ []) r h);
    found = λ i f m o z. one_more rows n i f d (λ r. coefficient k r ≡ pos 0 → Contains (t.part ++ get_or rows n d ∷ []) r) l m
        (λ s y. Contains-append_left t.part (get_or rows n d ∷ []) _ (t.found i f s o y)) (λ y. Contains-push t.part (get_or rows n d)) z;
    count = let s = length_push t.part (get_or rows n d) in
        let u = count_yes (λ r. int_eq (coefficient k r) (pos 0)) rows n (length t.part) d l (eq_true _ _ (x.0)) t.count in omega arith;
  }
    where
      known : (r : Row) → Contains t.part r ⊎ Contains (get_or rows n d ∷ []) r → Contains rows r × (coefficient k r ≡ pos 0)
      known r (inl h) = t.known r h
      known r (inr h) = rw (sym (in_one (get_or rows n d) r h)) (Contains-get_or rows n d l, x.0)
  free-more n d a b c t l (inr x) = rw (x.1) (record {
    part = t.part;
    kept = t.kept;
    known = t.known;
    found = λ i f m o z. one_more rows n i f d (λ r. coefficient k r ≡ pos 0 → Contains t.part r) l m (λ s y. t.found i f s o y) (λ y. absurd (x.0 y)) z;
    count = count_kept (λ r. int_eq (coefficient k r) (pos 0)) rows n (length t.part) d l t.count;
  })

  pub pairs-none : (p : Row) (e : Eliminated) → ArePairsTaken k p rows 0 e e
  pairs-none p e = record {
    part = [];
    kept = kept-none e;
    known = λ r c. absurd (none_in r c);
    found = λ i d l m z. absurd (omega arith);
    count = omega arith;
  }

  pub pairs-more : (p : Row) (n : ℕ) (d : Row) (a b c : Eliminated) → ArePairsTaken k p rows n a b → n < length rows → IsPairTaken k p (get_or rows n d) b c
      → ArePairsTaken k p rows (n + 1) a c
  pairs-more p n d a b c t l (inl (h, (r, comb, kept))) = record {
    part = t.part ++ r ∷ [];
    kept = kept-more t.part (r ∷ []) a b c t.kept kept;
    known = λ s m. known s (Contains-append_cases t.part (r ∷ []) s m);
    found = λ i f m o z. one_more rows n i f d (λ q. coefficient k q <ℤ pos 0 → (s : Row) × IsCombined k p q s × Contains (t.part ++ r ∷ []) s) l m
        (λ s y. let g = t.found i f s o y in (g.0, g.1, Contains-append_left t.part (r ∷ []) (g.0) (g.2))) (λ y. (r, comb, Contains-push t.part r)) z;
    count = let s = length_push t.part r in
        let u = count_yes (λ q. int_lt (coefficient k q) (pos 0)) rows n (length t.part) d l (lt_true _ _ h) t.count in omega arith;
  }
    where
      known : (s : Row) → Contains t.part s ⊎ Contains (r ∷ []) s → (q : Row) × Contains rows q × (coefficient k q <ℤ pos 0) × IsCombined k p q s
      known s (inl m) = t.known s m
      known s (inr m) = rw (sym (in_one r s m)) (get_or rows n d, Contains-get_or rows n d l, h, comb)
  pairs-more p n d a b c t l (inr x) = rw (x.1) (record {
    part = t.part;
    kept = t.kept;
    known = t.known;
    found = λ i f m o z. one_more rows n i f d (λ q. coefficient k q <ℤ pos 0 → (s : Row) × IsCombined k p q s × Contains t.part s) l m
        (λ s y. t.found i f s o y)
        (λ y. absurd (both _ (x.0) y)) z;
    count = count_kept (λ q. int_lt (coefficient k q) (pos 0)) rows n (length t.part) d l t.count;
  })
    where
      both : (z : ℤ) → pos 0 ≤ℤ z → z <ℤ pos 0 → ⊥
      both z f g = omega (arith, ints)

  pub paired-none : (e : Eliminated) → AreRowsPaired k rows 0 e e
  paired-none e = record {
    part = [];
    kept = kept-none e;
    known = λ r c. absurd (none_in r c);
    found = λ i d q l m z c y. absurd (omega arith);
    count = omega arith;
  }

  all_taken : take (length rows) rows ≡ rows
  all_taken = take-length rows

  pub paired-more : (n : ℕ) (d : Row) (a b c : Eliminated) → AreRowsPaired k rows n a b → n < length rows → IsRowPaired k (get_or rows n d) rows b c
      → AreRowsPaired k rows (n + 1) a c
  paired-more n d a b c t l (inl (h, x)) = record {
    part = t.part ++ x.part;
    kept = kept-more t.part x.part a b c t.kept x.kept;
    known = λ r m. known r (Contains-append_cases t.part x.part r m);
    found = λ i f q m o z cq y. one_more rows n i f d (λ p. pos 0 <ℤ coefficient k p → (s : Row) × IsCombined k p q s × Contains (t.part ++ x.part) s) l m
        (λ s u. let g = t.found i f q s o u cq y in (g.0, g.1, Contains-append_left t.part x.part (g.0) (g.2)))
        (λ u. let g = all_found q cq y in (g.0, g.1, Contains-append_right t.part x.part (g.0) (g.2))) z;
    count = let s = length-append t.part x.part in
        let u = count_by_more_yes (λ p. int_lt (pos 0) (coefficient k p)) rows n d l (lt_true _ _ h) in
        let v = rw all_taken at x.count in
        counted (length (t.part ++ x.part)) (length t.part) (length x.part) (positives k (take n rows)) (positives k (take (n + 1) rows))
        (negatives k rows) s t.count v u;
  }
    where
      known : (r : Row) → Contains t.part r ⊎ Contains x.part r
          → (p : Row) × (q : Row) × Contains rows p × Contains rows q × (pos 0 <ℤ coefficient k p) × (coefficient k q <ℤ pos 0) × IsCombined k p q r
      known r (inl m) = t.known r m
      known r (inr m) = let g = x.known r m in (get_or rows n d, g.0, Contains-get_or rows n d l, g.1, h, g.2, g.3)

      all_found : (q : Row) → Contains rows q → coefficient k q <ℤ pos 0 → (s : Row) × IsCombined k (get_or rows n d) q s × Contains x.part s
      all_found q (j, m, e) y =
          let P : Row → Type 0 = λ z. coefficient k z <ℤ pos 0 → (s : Row) × IsCombined k (get_or rows n d) z s × Contains x.part s in
          subst P e (λ u. x.found j q m m u) y

      counted : (s u v p1 p2 m : ℕ) → s ≡ u + v → u ≤ p1 * m → v ≤ m → p2 ≡ p1 + 1 → s ≤ p2 * m
      counted s u v p1 p2 m e f g h = rw h (omega arith)
  paired-more n d a b c t l (inr x) = rw (x.1) (record {
    part = t.part;
    kept = t.kept;
    known = t.known;
    found = λ i f q m o z cq y. one_more rows n i f d (λ p. pos 0 <ℤ coefficient k p → (s : Row) × IsCombined k p q s × Contains t.part s) l m
        (λ s u. t.found i f q s o u cq y)
        (λ u. absurd (both _ (x.0) u)) z;
    count = let u = count_kept (λ p. int_lt (pos 0) (coefficient k p)) rows n (positives k (take n rows)) d l (omega arith) in
        let v = mul-le-mul_right (negatives k rows) u in let w = t.count in omega arith;
  })
    where
      both : (z : ℤ) → z ≤ℤ pos 0 → pos 0 <ℤ z → ⊥
      both z f g = omega (arith, ints)

  -- what is dropped can be counted
  pub free-few : (n : ℕ) (a b : Eliminated) → AreFreeTaken k rows n a b → n < length rows → length rows < 2 ^ 32 → a.dropped ≡ 0 → b.dropped + 1 < 2 ^ 64
  free-few n a b t l few none =
      let u = t.kept.dropped in
      let v = t.count in
      let w = count_by-le-length (λ r. int_eq (coefficient k r) (pos 0)) (take n rows) in
      let x = length-take-le n rows (omega arith) in
      omega arith

  pub pairs-few : (p : Row) (n : ℕ) (a b : Eliminated) → ArePairsTaken k p rows n a b → n < length rows → a.dropped + length rows < 2 ^ 64
      → b.dropped + 1 < 2 ^ 64
  pairs-few p n a b t l room =
      let u = t.kept.dropped in
      let v = t.count in
      let w = count_by-le-length (λ q. int_lt (coefficient k q) (pos 0)) (take n rows) in
      let x = length-take-le n rows (omega arith) in
      omega arith

  few_in_all : (b a u p m n w : ℕ) → b ≤ a + u → u ≤ p * m → p ≤ n → m ≤ w → n < w → a ≤ w → w < 2 ^ 32 → b + w < 2 ^ 64
  few_in_all b a u p m n w h1 h2 h3 h4 h5 h6 h7 =
      let one = mul-le-mul h3 h4 in
      let next : n + 1 ≤ w = omega arith in
      let two = mul-le-mul_right w next in
      let most : w ≤ 4294967295 = omega arith in
      let three = mul-le-mul_right w most in
      joined b a u (p * m) (n * w) (w * w) w h1 h2 one (omega arith) (omega arith) h6 h7
    where
      joined : (b a u x y z w : ℕ) → b ≤ a + u → u ≤ x → x ≤ y → y + w ≤ z → z ≤ 4294967295 * w → a ≤ w → w < 2 ^ 32 → b + w < 2 ^ 64
      joined b a u x y z w h1 h2 h3 h4 h5 h6 h7 = omega arith

  pub paired-few : (n : ℕ) (a b : Eliminated) → AreRowsPaired k rows n a b → n < length rows → length rows < 2 ^ 32 → a.dropped ≤ length rows
      → b.dropped + length rows < 2 ^ 64
  paired-few n a b t l few room =
      let p = count_by-le-length (λ r. int_lt (pos 0) (coefficient k r)) (take n rows) in
      let q = count_by-le-length (λ r. int_lt (coefficient k r) (pos 0)) rows in
      let x = length-take-le n rows (omega arith) in
      few_in_all b.dropped a.dropped (length t.part) (positives k (take n rows)) (negatives k rows) n (length rows) t.kept.dropped t.count
      (omega arith) q l room few

-- a sum of two products of numbers within n and m
sum_within : (a x b y : ℤ) (n m t : ℕ) → unsigned_abs a ≤ n → unsigned_abs x ≤ m → unsigned_abs b ≤ n → unsigned_abs y ≤ m → 2 * n * m ≤ t
    → unsigned_abs ((a *ℤ x) +ℤ (b *ℤ y)) ≤ t
sum_within a x b y n m t ha hx hb hy most =
    let s = abs-add (a *ℤ x) (b *ℤ y) in
    let p = unsigned_abs-mul a x in
    let q = unsigned_abs-mul b y in
    let u = mul-le-mul ha hx in
    let v = mul-le-mul hb hy in
    joined (unsigned_abs ((a *ℤ x) +ℤ (b *ℤ y))) (unsigned_abs (a *ℤ x)) (unsigned_abs (b *ℤ y)) (unsigned_abs a * unsigned_abs x)
    (unsigned_abs b * unsigned_abs y) (n * m) t s p q u v (omega arith)
  where
    joined : (s p q u v w t : ℕ) → s ≤ p + q → p ≡ u → q ≡ v → u ≤ w → v ≤ w → w + w ≤ t → s ≤ t
    joined s p q u v w t h1 h2 h3 h4 h5 h6 = omega arith

combined-fits : (k m c : ℕ) (p q r : Row) → IsRowWithin m c p → IsRowWithin m c q → IsCombined k p q r → 2 * m * m ≤ 2 ^ 30 → 2 * m * c ≤ 2 ^ 60 → Fits r
combined-fits k m c p q r wp wq comb hm hc = record {
  coefficients = λ j d l. rw (get_or_default r.coefficients j d (pos 0) l, comb.coefficients j)
      (sum_within (pos 0 -ℤ coefficient k q) (coefficient j p) (coefficient k p) (coefficient j q) m m (2 ^ 30) by
      (number_within m p.coefficients wp.coefficients j)
      (number_within m p.coefficients wp.coefficients k) (number_within m q.coefficients wq.coefficients j) hm);
  bound = rw comb.bound (sum_within (pos 0 -ℤ coefficient k q) p.bound (coefficient k p) q.bound m c (2 ^ 60) by wp.bound
      (number_within m p.coefficients wp.coefficients k) wq.bound hc);
}
  where
    by : unsigned_abs (pos 0 -ℤ coefficient k q) ≤ m
    by = rw (abs_opposite (coefficient k q)) (number_within m q.coefficients wq.coefficients k)

-- what the two loops leave together
module _ (rows : List Row) (k : ℕ) (poly : IsPoly rows) (one two : Eliminated) (freed : AreFreeTaken k rows (length rows) (step_of [] 0) one)
    (paired : AreRowsPaired k rows (length rows) one two) where
  all_kept : AreKept (freed.part ++ paired.part) (step_of [] 0) two
  all_kept = kept-more freed.part paired.part (step_of [] 0) one two freed.kept paired.kept

  pub eliminated-few : length two.rows ≤ 1024
  eliminated-few = all_kept.most (omega arith)

  pub eliminated-step : AreStepRows rows k two.rows
  eliminated-step r h = go (all_kept.known r h)
    where
      go : Contains [] r ⊎ Contains (freed.part ++ paired.part) r → IsStepRow rows k r
      go (inl n) = absurd (none_in r n)
      go (inr m) = part (Contains-append_cases freed.part paired.part r m)
        where
          part : Contains freed.part r ⊎ Contains paired.part r → IsStepRow rows k r
          part (inl f) = let g = freed.known r f in free (g.0) (g.1)
          part (inr f) = let g = paired.known r f in pair (g.0) (g.1) (g.2) (g.3) (g.4) (g.5) (g.6)

  pub eliminated-has : two.dropped ≡ 0 → HasStepRows rows k two.rows
  eliminated-has none = record {
    free = λ r c z. all_kept.all none r (Contains-append_left freed.part paired.part r (first r c z));
    pairs = λ p q cp cq hp hq. let g = second p q cp cq hp hq in (g.0, g.1, all_kept.all none (g.0) (Contains-append_right freed.part paired.part (g.0) (g.2)));
  }
    where
      first : (r : Row) → Contains rows r → coefficient k r ≡ pos 0 → Contains freed.part r
      first r (i, l, e) z =
          let P : Row → Type 0 = λ y. coefficient k y ≡ pos 0 → Contains freed.part y in
          subst P e (λ u. freed.found i r l l u) z

      second : (p q : Row) → Contains rows p → Contains rows q → pos 0 <ℤ coefficient k p → coefficient k q <ℤ pos 0
          → (r : Row) × IsCombined k p q r × Contains paired.part r
      second p q (i, l, e) cq hp hq =
          let P : Row → Type 0 = λ y. pos 0 <ℤ coefficient k y → (r : Row) × IsCombined k y q r × Contains paired.part r in
          subst P e (λ u. paired.found i p q l l u cq hq) hp

  pub eliminated-width : All (λ r. length r.coefficients ≡ rows_width rows) two.rows
  eliminated-width i d l = go (get_or two.rows i d) (eliminated-step (get_or two.rows i d) (Contains-get_or two.rows i d l))
    where
      go : (r : Row) → IsStepRow rows k r → length r.coefficients ≡ rows_width rows
      go r (free c z) = All-contains (λ q. length q.coefficients ≡ rows_width rows) rows r poly.widths c
      go r (pair p q cp cq hp hq c) = c.width ∙ All-contains (λ q. length q.coefficients ≡ rows_width rows) rows p poly.widths cp

  pub eliminated-poly : IsPoly two.rows
  eliminated-poly = record {
    widths = one_width (rows_width rows) two.rows eliminated-width;
    fits = all_kept.fits (All-nil Fits);
    few = let x = eliminated-few in omega arith;
  }

  pub eliminated-sizes : (m c : ℕ) → All (IsRowWithin m c) rows → positives k rows * negatives k rows + zeros k rows ≤ 1024 → 2 * m * m ≤ 2 ^ 30
      → 2 * m * c ≤ 2 ^ 60 → two.dropped ≡ 0
  eliminated-sizes m c within room hm hc =
      let x = rw (take-length rows) at freed.count in
      let y = rw (take-length rows) at paired.count in
      let n = length-append freed.part paired.part in
      all_kept.room (All-append Fits freed.part paired.part free_fits pair_fits) (omega arith)
    where
      free_fits : All Fits freed.part
      free_fits i d l = let g = freed.known (get_or freed.part i d) (Contains-get_or freed.part i d l) in
          All-contains Fits rows (get_or freed.part i d) poly.fits (g.0)

      pair_fits : All Fits paired.part
      pair_fits i d l =
          let g = paired.known (get_or paired.part i d) (Contains-get_or paired.part i d l) in
          combined-fits k m c (g.0) (g.1) (get_or paired.part i d) (All-contains (IsRowWithin m c) rows (g.0) within (g.2))
          (All-contains (IsRowWithin m c) rows (g.1) within (g.3)) (g.6) hm hc
