-- Greatest values over the box.
use Rattle.std.proofs.Common.{◌≡◌, ◌≢◌, ℕ, ◌^◌, ◌<◌, ◌≤◌, ℤ, pos, negsuc, ◌+ℤ◌, ◌-ℤ◌, ◌*ℤ◌, ◌≤ℤ◌, ◌<ℤ◌, List, length, get_or, All, Some, None, arith, refl, ap}
use Rattle.std.proofs.Common.{sym, ◌∙◌, subst, ◌⊎◌, inl, inr, cond, eqb}
use Rattle.std.proofs.lemmas.Bool.{cases_lt, cases_eq, eq-eqb, ne_eqb}
use Rattle.std.proofs.{Math.IntN.*ℤ-zero, lemmas.Int.ints, lemmas.Option.none-some, lemmas.List.get_or_past}
use Rattle.std.specs.Int.RustNames.{unsigned_abs}
use Rattle.rv_rows.specs.{declared.linear.Row.Row, declared.farkas.Weight.Weight, Rows.dot, Rows.coefficient, Rows.row_at, Forms.number, Multipliers.weighted}
use Rattle.rv_rows.proofs.IntLemmas.{mul_mono, mul_add, mul_comm_int}
use Rattle.rv_proofs.specs.Boxes.{HasOneColumn}
use Rattle.rv_boxes.specs.Boxed.{IsBoxed, HasBoxed, ArePremises, IsCrossed, IsUncrossed, IsTowards, IsLoose, IsColumnWeight, IsSummed, IsGreatest, IsUnbounded}
use Rattle.rv_boxes.specs.{declared.ends.End.End, declared.peaks.Peak.Peak, Ends.AreEnds, Ends.end_at}
use Rattle.rv_boxes.proofs.BoxLemmas.{InEnd, at_high, at_low, high_in, low_in, listed, number-listed, boxed_from, unit_has_one, unit_value, dot-listed-add}
use Rattle.rv_boxes.proofs.BoxLemmas.{dot-listed-one}
use Rattle.rv_boxes.proofs.{Weighted.weighted-dot, Weighted.weighted-holds, Weighted.weighted-met, Summing.IsTurned, Summing.turned_from}
use Rattle.rv_terms.proofs.Sums.{zero_right}

-- the number of a column at the end towards which a multiple of it grows
abbrev pub at_end : List Row → End → ℤ → ℤ
at_end rows e (pos n) = at_high rows e.high e.low
at_end rows e (negsuc n) = at_low rows e.high e.low

pub end_in : (rows : List Row) (e : End) (c : ℤ) → ¬ IsCrossed rows e → InEnd rows e (at_end rows e c)
end_in rows e (pos n) o = high_in rows e o
end_in rows e (negsuc n) o = low_in rows e o

-- the row of the end holds there exactly
pub end_met : (rows : List Row) (e : End) (c : ℤ) (p : ℕ) → IsTowards e c p
    → ((pos 0 <ℤ c) × (at_end rows e c ≡ (row_at rows p).bound)) ⊎ ((c <ℤ pos 0) × (at_end rows e c ≡ pos 0 -ℤ (row_at rows p).bound))
end_met rows e (pos n) p (inl (u, h)) = inl (u, rw h refl)
end_met rows e (pos n) p (inr (u, h)) = absurd (omega (arith, ints))
end_met rows e (negsuc n) p (inl (u, h)) = absurd (omega (arith, ints))
end_met rows e (negsuc n) p (inr (u, h)) = inr (u, rw h refl)

-- how far a column is pushed
abbrev push_by : ℤ → ℕ → ℤ
push_by (pos c) n = pos n
push_by (negsuc c) n = pos 0 -ℤ pos n

push_grows : (c : ℤ) (n : ℕ) → (pos 0 <ℤ c) ⊎ (c <ℤ pos 0) → pos n ≤ℤ (c *ℤ push_by c n)
push_grows (pos c) n (inl u) =
    let low : pos 1 ≤ℤ pos c = omega (arith, ints) in
    let none : pos 0 ≤ℤ pos n = omega (arith, ints) in
    let m = mul_mono (pos n) (pos 1) (pos c) none low in
    let e = mul_comm_int (pos c) (pos n) in
    omega (arith, ints)
push_grows (pos c) n (inr u) = absurd (omega (arith, ints))
push_grows (negsuc c) n (inl u) = absurd (omega (arith, ints))
push_grows (negsuc c) n (inr u) =
    let high : negsuc c ≤ℤ negsuc 0 = omega (arith, ints) in
    let none : pos 0 ≤ℤ pos n = omega (arith, ints) in
    let m = mul_mono (pos n) (negsuc c) (negsuc 0) none high in
    let e = mul_comm_int (negsuc c) (pos n) in
    let s : (pos 0 -ℤ pos n) +ℤ pos n ≡ pos 0 = omega (arith, ints) in
    let f : (negsuc c *ℤ (pos 0 -ℤ pos n)) +ℤ (negsuc c *ℤ pos n) ≡ pos 0 = sym (mul_add (negsuc c) (pos 0 -ℤ pos n) (pos n))
    ∙ ap (λ y. negsuc c *ℤ y) s ∙ *ℤ-zero (negsuc c) in
    ends_up (negsuc c *ℤ (pos 0 -ℤ pos n)) (negsuc c *ℤ pos n) (pos n *ℤ negsuc c) (pos n *ℤ negsuc 0) n f e m (omega (arith, ints))
  where
    ends_up : (a b x y : ℤ) (n : ℕ) → a +ℤ b ≡ pos 0 → b ≡ x → x ≤ℤ y → y ≡ pos 0 -ℤ pos n → pos n ≤ℤ a
    ends_up a b x y n f e m g = omega (arith, ints)

-- a number at one column
abbrev at_one : ℕ → ℤ → ℕ → ℤ
at_one k d j = cond (eqb j k) d (pos 0)

at_same : (k : ℕ) (d : ℤ) → at_one k d k ≡ d
at_same k d = rw (eq-eqb k k refl) refl

at_other : (k : ℕ) (d : ℤ) (j : ℕ) → j ≢ k → at_one k d j ≡ pos 0
at_other k d j ne = rw (ne_eqb j k ne) refl

none_some : {A : Type 0} (p : ℕ) → None ≡ Some p → A
none_some p e = absurd (none-some p e)

module _ (rows : List Row) (width : ℕ) (pre : ArePremises width rows) (ends : List End) (are : AreEnds rows width ends)
    (open' : IsUncrossed rows ends width) (numbers : List ℤ) (narrow : length numbers ≤ width) where
  top : ℕ → ℤ
  top k = at_end rows (end_at ends k) (number k numbers)

  top_in : (k : ℕ) → k < width → InEnd rows (end_at ends k) (top k)
  unfolding top
  top_in k l = end_in rows (end_at ends k) (number k numbers) (open' k l)

  top_boxed : IsBoxed width rows (listed top width)
  top_boxed = boxed_from width rows pre ends are top top_in

  module _ (sizes : All (λ c. unsigned_abs c ≤ 2 ^ 41) numbers) (g : Peak) (sum : IsSummed rows ends numbers (length numbers) g) where
    sides : (m : ℕ) → weighted (coefficient m) rows g.weights ≡ number m numbers
    sides m = go (cases_lt m (length numbers))
      where
        go : (m < length numbers) ⊎ (length numbers ≤ m) → weighted (coefficient m) rows g.weights ≡ number m numbers
        go (inl l) = sum.below m l
        go (inr l) = sum.above m l ∙ sym (get_or_past numbers m (pos 0) l)

    turned : (w : Weight) → IsColumnWeight ends numbers (length numbers) w → (k : ℕ) × (k < width) × (w.by ≡ pos (unsigned_abs (number k numbers)))
        × IsTowards (end_at ends k) (number k numbers) w.premise × IsTurned rows k (number k numbers) w.premise
    turned w (k, l, by, t) = (k, omega arith, by, t, turned_from rows k (number k numbers) w.premise (end_at ends k) (are.each k (omega arith)) t)

    unit_one : (w : Weight) → IsColumnWeight ends numbers (length numbers) w → (w.premise < length rows) × HasOneColumn (row_at rows w.premise)
    unit_one w h = let (k, l, by, t, u) = turned w h in (u.there, unit_has_one (row_at rows w.premise) k u.sign u.some u.unit)

    ranged : (w : Weight) → IsColumnWeight ends numbers (length numbers) w → (pos 1 ≤ℤ w.by) × (w.by ≤ℤ pos (2 ^ 41))
    ranged w (k, l, by, t) =
        let small : unsigned_abs (number k numbers) ≤ 2 ^ 41 = sizes k (pos 0) l in
        (one (number k numbers) w.by by t, most w.by (unsigned_abs (number k numbers)) by small)
      where
        one : (c z : ℤ) → z ≡ pos (unsigned_abs c) → IsTowards (end_at ends k) c w.premise → pos 1 ≤ℤ z
        one c z e (inl (u, h)) = omega (arith, ints)
        one c z e (inr (u, h)) = omega (arith, ints)

        most : (z : ℤ) (n : ℕ) → z ≡ pos n → n ≤ 2 ^ 41 → z ≤ℤ pos (2 ^ 41)
        most z n e h = omega (arith, ints)

    met : (w : Weight) → IsColumnWeight ends numbers (length numbers) w → dot (row_at rows w.premise).coefficients (listed top width) ≡
        (row_at rows w.premise).bound
    unfolding top
    met w h = let (k, l, by, t, u) = turned w h in
        unit_value (row_at rows w.premise) k u.sign (listed top width) u.unit ∙ ap (λ z. u.sign *ℤ z) (number-listed top width k l)
        ∙ signed u.sign (number k numbers) (top k) (row_at rows w.premise).bound u.sided (end_met rows (end_at ends k) (number k numbers) w.premise t)
      where
        signed : (s c x b : ℤ) → ((pos 0 <ℤ c) × (s ≡ pos 1)) ⊎ ((c <ℤ pos 0) × (s ≡ negsuc 0)) → ((pos 0 <ℤ c) × (x ≡ b))
            ⊎ ((c <ℤ pos 0) × (x ≡ pos 0 -ℤ b)) → s *ℤ x ≡ b
        signed s c x b (inl (u, e)) (inl (v, f)) = rw (e, f) (omega (arith, ints))
        signed s c x b (inl (u, e)) (inr (v, f)) = absurd (omega (arith, ints))
        signed s c x b (inr (u, e)) (inl (v, f)) = absurd (omega (arith, ints))
        signed s c x b (inr (u, e)) (inr (v, f)) = rw (e, f) (omega (arith, ints))

    pub is_greatest : IsGreatest width rows numbers g
    is_greatest = record {
      sides = sides;
      bound = sym sum.bound;
      room = sum.room;
      units = λ i d l. unit_one (get_or g.weights i d) (sum.named i d l);
      weights = λ i d l. ranged (get_or g.weights i d) (sum.named i d l);
      rises = sum.rises;
      count = sum.count;
      most = most;
      reached = (listed top width, top_boxed, reached);
    }
      where
        most : (point : List ℤ) → IsBoxed width rows point → dot numbers point ≤ℤ g.bound
        most point b =
            let e = weighted-dot rows point (λ r. r.coefficients) numbers g.weights sides in
            let h = weighted-holds rows point g.weights (λ i d l.
            let (there, one) = unit_one (get_or g.weights i d) (sum.named i d l) in
            let low = (ranged (get_or g.weights i d) (sum.named i d l)).0 in
            (omega (arith, ints), b.holds (get_or g.weights i d).premise there one)) in
            rw (sym e, sum.bound) h

        reached : dot numbers (listed top width) ≡ g.bound
        reached =
            sym (weighted-dot rows (listed top width) (λ r. r.coefficients) numbers g.weights sides)
            ∙ weighted-met rows (listed top width) g.weights (λ i d l. met (get_or g.weights i d) (sum.named i d l))
            ∙ sym sum.bound

  -- a column without an end lets the sum grow
  module _ (k : ℕ) (l : k < width) (loose : IsLoose (end_at ends k) (number k numbers)) where
    pub is_unbounded : IsUnbounded width rows numbers
    unfolding top
    is_unbounded z =
        let n : ℕ = unsigned_abs (z -ℤ dot numbers (listed top width)) in
        let d : ℤ = push_by (number k numbers) n in (
          listed (λ j. top j +ℤ at_one k d j) width,
          boxed_from width rows pre ends are (λ j. top j +ℤ at_one k d j) (inside d n refl),
          enough z (dot numbers (listed top width)) (number k numbers *ℤ d) _
              (dot-listed-add numbers top (at_one k d) width ∙ ap (λ y. dot numbers (listed top width) +ℤ y)
              (dot-listed-one numbers (at_one k d) width k l (λ j ne. at_other k d j ne) ∙ ap (λ y. number k numbers *ℤ y) (at_same k d)))
              (push_grows (number k numbers) n (not_none loose)),
        )
      where
        not_none : IsLoose (end_at ends k) (number k numbers) → (pos 0 <ℤ number k numbers) ⊎ (number k numbers <ℤ pos 0)
        not_none (inl (u, h)) = inl u
        not_none (inr (u, h)) = inr u

        enough : (z v p y : ℤ) → y ≡ v +ℤ p → pos (unsigned_abs (z -ℤ v)) ≤ℤ p → z ≤ℤ y
        enough z v p y e h = omega (arith, ints)

        here : (c d : ℤ) (n : ℕ) → c ≡ number k numbers → d ≡ push_by c n → IsLoose (end_at ends k) c → InEnd rows (end_at ends k) (top k +ℤ d)
        here (pos m) d n q e (inl (u, h)) =
            let t = top_in k l in
            record { high = λ p f. none_some p (sym h ∙ f); low = λ p f. let b = t.low p f in omega (arith, ints) }
        here (pos m) d n q e (inr (u, h)) = absurd (omega (arith, ints))
        here (negsuc m) d n q e (inl (u, h)) = absurd (omega (arith, ints))
        here (negsuc m) d n q e (inr (u, h)) =
            let t = top_in k l in
            record { high = λ p f. let b = t.high p f in omega (arith, ints); low = λ p f. none_some p (sym h ∙ f) }

        inside : (d : ℤ) (n : ℕ) → d ≡ push_by (number k numbers) n → (j : ℕ) → j < width → InEnd rows (end_at ends j) (top j +ℤ at_one k d j)
        inside d n e j m = go (cases_eq j k)
          where
            go : (j ≡ k) ⊎ (j ≢ k) → InEnd rows (end_at ends j) (top j +ℤ at_one k d j)
            go (inl q) = subst (λ (i : ℕ). InEnd rows (end_at ends i) (top i +ℤ at_one k d i)) (sym q)
                (rw (at_same k d) (here (number k numbers) d n refl e loose))
            go (inr q) = rw (at_other k d j q) (rw (zero_right (top j)) (top_in j m))

-- a box whose ends exclude each other in no column has a point
pub some_boxed : (rows : List Row) (width : ℕ) → ArePremises width rows → (ends : List End) → AreEnds rows width ends → IsUncrossed rows ends width
    → HasBoxed width rows
some_boxed rows width pre ends are open' = (
  listed (λ k. at_end rows (end_at ends k) (pos 0)) width,
  boxed_from width rows pre ends are (λ k. at_end rows (end_at ends k) (pos 0))
      (λ k l. end_in rows (end_at ends k) (pos 0) (open' k l)),
)
