-- What tighter premises show at once.
use Rattle.std.proofs.Common.{◌≡◌, ℕ, ◌+◌, ◌-◌, ◌≤◌, ◌<◌, ℤ, pos, ◌≤ℤ◌, List, [], ◌++◌, length, get_or, slice_get, IsTrue, arith, refl, ap, sym, ◌∙◌, ◌⊎◌, inl}
use Rattle.std.proofs.Common.{inr}
use Rattle.std.proofs.lemmas.List.{get_or_append_left, get_or-append_right, length-append, get_or_default}
use Rattle.std.proofs.{lemmas.Int.ints, lemmas.Bool.cases_lt, lemmas.Option.slice_get-get_or}
use Rattle.rv_diagram.specs.Nodes.{Valuation}
use Rattle.rv_rows.specs.{declared.linear.Row.Row, Rows.coefficient, Rows.row_at}
use Rattle.rv_proofs.specs.Systems.{System, HasSameState}
use Rattle.rv_proofs.specs.RowClaims.{RowClaim, IsRowClaim, IsRowTaken, IsRowGood, HasGoodRows, HasTighter, IsRowTighter}
use Rattle.rv_claims.specs.Order.{IsBelowClosed, IsBottom, IsRaised}
use Rattle.rv_proofs.proofs.RowTighter.{claim-shows, claim-taken}

-- each premise has one with its left side and at most its bound, and different ones have different ones
pub record At (as' bs : List Row) (i : ℕ) : Type 0 where
  pub place : ℕ
  pub there : place < length bs
  pub sides : (k : ℕ) → coefficient k (row_at as' i) ≡ coefficient k (row_at bs place)
  pub bound : (row_at bs place).bound ≤ℤ (row_at as' i).bound

pub record AreTighter (as' bs : List Row) : Type 0 where
  pub at : (i : ℕ) → i < length as' → At as' bs i
  pub apart : (i j : ℕ) (l : i < length as') (m : j < length as') → i < j → (at i l).place ≡ (at j m).place → ⊥

-- the premises of a tighter claim are tighter
module _ (s : System) (thresholds : List ℤ) (c d : RowClaim) (claim : IsRowClaim s thresholds d) (below : IsRowTighter c d) (rows : List Row) where
  abbrev zero_row : Row
  zero_row = record { coefficients = []; bound = pos 0 }

  in_rows : (i : ℕ) → i < length rows → At (rows ++ d.rows) (rows ++ c.rows) i
  in_rows i l = record {
    place = i;
    there = let n = length-append rows c.rows in omega arith;
    sides = λ k. ap (coefficient k) (get_or_append_left rows d.rows zero_row i l ∙ sym (get_or_append_left rows c.rows zero_row i l));
    bound = rw (get_or_append_left rows d.rows zero_row i l, get_or_append_left rows c.rows zero_row i l) (same_bound (row_at rows i).bound);
  }
    where
      same_bound : (b : ℤ) → b ≤ℤ b
      same_bound b = omega (arith, ints)

  in_rows-place : (i : ℕ) (l : i < length rows) → (in_rows i l).place ≡ i
  unfolding in_rows
  in_rows-place i l = refl

  -- the row of the claim, and the tighter one
  tighter : (i : ℕ) → length rows ≤ i → i < length (rows ++ d.rows) → HasTighter c.rows (row_at d.rows (i - length rows))
  tighter i h l =
      let n = length-append rows d.rows in
      below.rows (row_at d.rows (i - length rows)) (
        i - length rows,
        omega arith,
        get_or_default d.rows (i - length rows) (row_at d.rows (i - length rows))
            zero_row (omega arith),
      )

  -- how the place of a premise is found
  pub data IsPlaced (i place : ℕ) : Type 0 where
    before_claim : i < length rows → place ≡ i → IsPlaced i place
    of_claim : length rows ≤ i → length rows ≤ place → (row_at (rows ++ c.rows) place).coefficients ≡ (row_at d.rows (i - length rows)).coefficients
        → IsPlaced i place

  in_claim_placed : (i : ℕ) (h : length rows ≤ i) (l : i < length (rows ++ d.rows)) → (a : At (rows ++ d.rows) (rows ++ c.rows) i) × IsPlaced i a.place
  in_claim_placed i h l = go (tighter i h l)
    where
      go : HasTighter c.rows (row_at d.rows (i - length rows)) → (a : At (rows ++ d.rows) (rows ++ c.rows) i) × IsPlaced i a.place
      go (q, (p, m, e), same, le) =
          let here : row_at (rows ++ c.rows) (length rows + p) ≡ q =
          get_or-append_right rows c.rows (length rows) (length rows + p) zero_row refl (omega arith)
          ∙ ap (λ n. get_or c.rows n zero_row) (minus (length rows) p) ∙ get_or_default c.rows p zero_row q m ∙ e in
          let there : row_at (rows ++ d.rows) i ≡ row_at d.rows (i - length rows) = get_or-append_right rows d.rows (length rows) i zero_row refl h in (
            record {
              place = length rows + p;
              there = let n = length-append rows c.rows in omega arith;
              sides = λ k. ap (coefficient k) there ∙ sym (ap (λ cs. get_or cs k (pos 0)) same) ∙ sym (ap (coefficient k) here);
              bound = rw (here, there) le;
            },
            of_claim h (omega arith) (ap (λ (r : Row). r.coefficients) here ∙ same),
          )
        where
          minus : (a b : ℕ) → a + b - a ≡ b
          minus a b = omega arith

  placed : (i : ℕ) → i < length (rows ++ d.rows) → (a : At (rows ++ d.rows) (rows ++ c.rows) i) × IsPlaced i a.place
  placed i l = go (cases_lt i (length rows))
    where
      go : (i < length rows) ⊎ (length rows ≤ i) → (a : At (rows ++ d.rows) (rows ++ c.rows) i) × IsPlaced i a.place
      go (inl h) = (in_rows i h, before_claim h (in_rows-place i h))
      go (inr h) = in_claim_placed i h l

  -- the rows of the claim at two numbers have two left sides
  two_sides : (i j : ℕ) → length rows ≤ i → i < j → j < length (rows ++ d.rows)
      → (row_at d.rows (i - length rows)).coefficients ≡ (row_at d.rows (j - length rows)).coefficients → ⊥
  two_sides i j h l m e =
      let n = length-append rows d.rows in
      let same : i - length rows ≡ j - length rows =
      claim.different (i - length rows) (j - length rows) (row_at d.rows (i - length rows)) (row_at d.rows (j - length rows))
      (slice_get-get_or d.rows (i - length rows) zero_row (omega arith)) (slice_get-get_or d.rows (j - length rows) zero_row (omega arith)) e in
      omega arith

  apart_placed : (i j p q : ℕ) → IsPlaced i p → IsPlaced j q → i < j → j < length (rows ++ d.rows) → p ≡ q → ⊥
  apart_placed i j p q (before_claim h e) (before_claim k f) l m same = omega arith
  apart_placed i j p q (before_claim h e) (of_claim k g f) l m same = omega arith
  apart_placed i j p q (of_claim h g e) (before_claim k f) l m same = omega arith
  apart_placed i j p q (of_claim h g e) (of_claim k o f) l m same = two_sides i j h l m (sym e ∙ ap (λ n. (row_at (rows ++ c.rows) n).coefficients) same ∙ f)

  pub premises-tighter : AreTighter (rows ++ d.rows) (rows ++ c.rows)
  premises-tighter = record {
    at = λ i l. (placed i l).0;
    apart = λ i j l m h e. apart_placed i j _ _ (placed i l).1 (placed j m).1 h m e;
  }

pub bottom-below : (s : System) (thresholds : List ℤ) (c : RowClaim) → IsBottom s thresholds c → IsBelowClosed s thresholds c
bottom-below s thresholds c bottom d claim closed = record {
  reached = λ v r. closed.initial v (bottom.reached v r);
  rows = λ r in'. bottom.rows r (claim.rows r in');
}

pub raised-below : (s : System) (thresholds : List ℤ) (c e : RowClaim) → IsBelowClosed s thresholds c → IsRaised s thresholds c e → IsBelowClosed s thresholds e
raised-below s thresholds c e all raised d claim closed = record {
  reached = λ v r. reached v (raised.reached v r);
  rows = λ r in'. raised.rows r (claim.rows r in') ((all d claim closed).rows r in') (λ v t.
      let shown = closed.rows v (claim-taken s thresholds c d claim (all d claim closed) v t) r in' in
      (shown.0, shown.1, claim-shows s thresholds c d claim (all d claim closed) v (shown.0) (shown.2)));
}
  where
    reached : (v : Valuation) → IsTrue (s.initial v) ⊎ (IsTrue (c.reached v) ⊎ ((w : Valuation) × IsRowTaken s c w × HasSameState s (s.next w) v))
        → IsTrue (d.reached v)
    reached v (inl h) = closed.initial v h
    reached v (inr (inl h)) = (all d claim closed).reached v h
    reached v (inr (inr (w, t, same))) = let h = closed.next w (claim-taken s thresholds c d claim (all d claim closed) w t) in
        sym (claim.reached (s.next w) v same) ∙ h

pub below-good : (s : System) (thresholds : List ℤ) (c : RowClaim) → IsBelowClosed s thresholds c → HasGoodRows s thresholds → IsRowGood s c
below-good s thresholds c all (d, claim, closed, good) v t = good v (claim-taken s thresholds c d claim (all d claim closed) v t)
