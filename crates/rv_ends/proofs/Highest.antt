-- The greatest value of a sum over a box, column by column.
use Rattle.std.proofs.Common.{◌≡◌, ◌<◌, ◌∙◌, ℕ, zero, suc, ℤ, pos, negsuc, ◌+ℤ◌, ◌-ℤ◌, ◌*ℤ◌, ◌≤ℤ◌, List, [], length, take, set, Option, Some, ap, sym, subst}
use Rattle.std.proofs.Common.{refl, arith, None as Nothing}
use Rattle.std.proofs.{Math.IntN.*ℤ-zero, Math.IntN.zero-*ℤ, lemmas.Int.ints, lemmas.Option.same_Some, lemmas.Option.none-some}
use Rattle.std.specs.Int.RustNames.{unsigned_abs}
use Rattle.rv_rows.specs.{Rows.dot, Forms.number}
use Rattle.rv_rows.proofs.IntLemmas.{mul_mono, mul_add, add_mul, mul_comm_int}
use Rattle.rv_ends.specs.Intervals.{Interval, IsInside, IsWithin, interval_at, HasPoint, IsPeak}
use Rattle.rv_ends.specs.Tops.{bound_times, bounds_sum, top_of}
use Rattle.rv_ends.proofs.Points.{dot_more, dot_changed, within_changed}

some_none : {A : Type 0} {B : Type 0} (x : A) → Some x ≡ Nothing → B
some_none x e = absurd (none-some x (sym e))

-- The bound is the greatest multiple by c of a number in the interval, or there is none.
pub record IsTop (i : Interval) (c : ℤ) (bound : Option ℤ) : Type 0 where
  pub most : (b : ℤ) → bound ≡ Some b → (x : ℤ) → IsInside i x → (c *ℤ x) ≤ℤ b
  pub reached : (b : ℤ) → bound ≡ Some b → (x : ℤ) × IsInside i x × (c *ℤ x ≡ b)
  pub unbounded : bound ≡ Nothing → (z : ℤ) → (x : ℤ) × IsInside i x × (z ≤ℤ (c *ℤ x))

-- ONE COLUMN

zero_most : (x b : ℤ) → pos 0 ≡ b → (pos 0 *ℤ x) ≤ℤ b
zero_most x b e = let z : pos 0 *ℤ x ≡ pos 0 = zero-*ℤ x in at (pos 0 *ℤ x) z
  where
    at : (y : ℤ) → y ≡ pos 0 → y ≤ℤ b
    at y z = omega (arith, ints)

zero_top : (i : Interval) (x : ℤ) → IsInside i x → IsTop i (pos 0) (Some (pos 0))
zero_top i x inside = record {
  most = λ b e y in_it. zero_most y b (same_Some (pos 0) b e);
  reached = λ b e. (x, inside, zero-*ℤ x ∙ same_Some (pos 0) b e);
  unbounded = λ e z. some_none (pos 0) e;
}

far : (m x z : ℤ) → pos 1 ≤ℤ m → z ≤ℤ (m *ℤ (x +ℤ pos (unsigned_abs (z -ℤ (m *ℤ x)))))
far m x z some =
    let d : ℤ = pos (unsigned_abs (z -ℤ (m *ℤ x))) in
    let none : pos 0 ≤ℤ d = omega (arith, ints) in
    let grown : (d *ℤ pos 1) ≤ℤ (d *ℤ m) = mul_mono d (pos 1) m none some in
    at (m *ℤ x) (m *ℤ d) (m *ℤ (x +ℤ d)) (d *ℤ pos 1) (mul_add m x d) (by_one d)
    (subst (λ (y : ℤ). (d *ℤ pos 1) ≤ℤ y) (mul_comm_int d m) grown)
  where
    by_one : (d : ℤ) → d *ℤ pos 1 ≡ d
    by_one d = omega (arith, ints)

    at : (a b whole e : ℤ) → whole ≡ a +ℤ b → e ≡ pos (unsigned_abs (z -ℤ a)) → e ≤ℤ b → z ≤ℤ whole
    at a b whole e p q l = omega (arith, ints)

-- a column that grows with its multiple
up_top : (n : ℕ) (high low : Option ℤ) (x : ℤ) → IsInside (record { high = high; low = low }) x
    → IsTop (record { high = high; low = low }) (pos (suc n)) (bound_times (pos (suc n)) high)
up_top n (Some h) low x inside =
    let m : ℤ = pos (suc n) in
    let positive : pos 0 ≤ℤ m = omega (arith, ints) in
    record {
      most = λ b e y in_it. subst (λ (z : ℤ). (m *ℤ y) ≤ℤ z) (same_Some (m *ℤ h) b e) (mul_mono m y h positive (in_it.high h refl));
      reached = λ b e. (
        h,
        record {
          high = λ g q. let s = same_Some h g q in omega (arith, ints);
          low = λ l q. let up = inside.high h refl in let down = inside.low l q in omega (arith, ints);
        },
        same_Some (m *ℤ h) b e,
      );
      unbounded = λ e z. some_none (m *ℤ h) e;
    }
up_top n Nothing low x inside =
    let m : ℤ = pos (suc n) in
    let positive : pos 1 ≤ℤ m = omega (arith, ints) in
    record {
      most = λ b e. absurd (none-some b e);
      reached = λ b e. absurd (none-some b e);
      unbounded = λ e z. (
        x +ℤ pos (unsigned_abs (z -ℤ (m *ℤ x))),
        record {
          high = λ g q. absurd (none-some g q);
          low = λ l q. further x (unsigned_abs (z -ℤ (m *ℤ x))) l (inside.low l q);
        },
        far m x z positive,
      );
    }
  where
    further : (x : ℤ) (d : ℕ) (l : ℤ) → (pos 0 -ℤ x) ≤ℤ l → (pos 0 -ℤ (x +ℤ pos d)) ≤ℤ l
    further x d l h = omega (arith, ints)

-- the same of the opposite
turn : (x : ℤ) → pos 0 -ℤ (pos 0 -ℤ x) ≡ x
turn x = omega (arith, ints)

turned : (high low : Option ℤ) (x : ℤ) → IsInside (record { high = high; low = low }) x → IsInside (record { high = low; low = high }) (pos 0 -ℤ x)
turned high low x i = record { high = i.low; low = λ b e. subst (λ (z : ℤ). z ≤ℤ b) (sym (turn x)) (i.high b e) }

opposite : (n : ℕ) (x : ℤ) → pos (suc n) *ℤ (pos 0 -ℤ x) ≡ negsuc n *ℤ x
opposite n x =
    at (pos (suc n) *ℤ (pos 0 -ℤ x)) (pos (suc n) *ℤ x) (negsuc n *ℤ x)
    (sym (mul_add (pos (suc n)) (pos 0 -ℤ x) x) ∙ ap (λ (z : ℤ). pos (suc n) *ℤ z) (gone x) ∙ *ℤ-zero (pos (suc n)))
    (sym (add_mul (negsuc n) (pos (suc n)) x) ∙ ap (λ (z : ℤ). z *ℤ x) (none n) ∙ zero-*ℤ x)
  where
    gone : (x : ℤ) → (pos 0 -ℤ x) +ℤ x ≡ pos 0
    gone x = omega (arith, ints)

    none : (n : ℕ) → negsuc n +ℤ pos (suc n) ≡ pos 0
    none n = omega (arith, ints)

    at : (a b c : ℤ) → a +ℤ b ≡ pos 0 → c +ℤ b ≡ pos 0 → a ≡ c
    at a b c p q = omega (arith, ints)

down_top : (n : ℕ) (high low bound : Option ℤ) → IsTop (record { high = low; low = high }) (pos (suc n)) bound
    → IsTop (record { high = high; low = low }) (negsuc n) bound
down_top n high low bound t = record {
  most = λ b e x i. subst (λ (z : ℤ). z ≤ℤ b) (opposite n x) (t.most b e (pos 0 -ℤ x) (turned high low x i));
  reached = λ b e. let r = t.reached b e in (pos 0 -ℤ r.0, turned low high r.0 r.1, back r.0 ∙ r.2);
  unbounded = λ e z. let r = t.unbounded e z in (pos 0 -ℤ r.0, turned low high r.0 r.1, subst (λ (y : ℤ). z ≤ℤ y) (sym (back r.0)) r.2);
}
  where
    back : (x : ℤ) → negsuc n *ℤ (pos 0 -ℤ x) ≡ pos (suc n) *ℤ x
    back x = sym (opposite n (pos 0 -ℤ x)) ∙ ap (λ (z : ℤ). pos (suc n) *ℤ z) (turn x)

pub column_top : (i : Interval) (c x : ℤ) → IsInside i x → IsTop i c (top_of c i)
column_top i (pos zero) x inside = zero_top i x inside
column_top i (pos (suc n)) x inside = up_top n i.high i.low x inside
column_top i (negsuc n) x inside = down_top n i.high i.low (bound_times (pos (suc n)) i.low) (up_top n i.low i.high (pos 0 -ℤ x) (turned i.high i.low x inside))

-- ALL COLUMNS

no_peak : (box : List Interval) (numbers : List ℤ) → HasPoint box → IsPeak box [] (Some (pos 0))
no_peak box numbers some = record {
  most = λ z e point w. let s = same_Some (pos 0) z e in omega (arith, ints);
  reached = λ z e. (some.0, some.1, same_Some (pos 0) z e);
  unbounded = λ e. some_none (pos 0) e;
}

pub peak_none : (box : List Interval) (numbers : List ℤ) (bound : Option ℤ) → bound ≡ Some (pos 0) → HasPoint box → IsPeak box (take 0 numbers) bound
peak_none box numbers bound e some = subst (λ (o : Option ℤ). IsPeak box [] o) (sym e) (no_peak box numbers some)

module _ (box : List Interval) (numbers : List ℤ) (k : ℕ) (known : k < length box) (some : HasPoint box) where
  -- what a point of the box makes of the sum
  apart : (point : List ℤ) (y b z : ℤ) → y +ℤ b ≡ z → dot (take k numbers) point ≤ℤ y → (number k numbers *ℤ number k point) ≤ℤ b
      → dot (take (suc k) numbers) point ≤ℤ z
  apart point y b z e p q = at (dot (take k numbers) point) (number k numbers *ℤ number k point) _ (dot_more numbers point k) p q
    where
      at : (a c whole : ℤ) → whole ≡ a +ℤ c → a ≤ℤ y → c ≤ℤ b → whole ≤ℤ z
      at a c whole s p q = omega (arith, ints)

  inside_at : (point : List ℤ) → IsWithin box point → IsInside (interval_at box k) (number k point)
  inside_at point w = w.each k known

  short : (point : List ℤ) → IsWithin box point → k < length point
  short point w = let size : length point ≡ length box = w.size in omega (arith, known, size)

  -- a point with its number at the column changed
  changed : (point : List ℤ) (x : ℤ) → IsWithin box point → IsInside (interval_at box k) x
      → IsWithin box (set point k x) × (dot (take (suc k) numbers) (set point k x) ≡ dot (take k numbers) point +ℤ (number k numbers *ℤ x))
  changed point x w i = (within_changed box point k x w i, dot_changed numbers point k x (short point w))

  grow : (top so_far : Option ℤ) → IsTop (interval_at box k) (number k numbers) top → IsPeak box (take k numbers) so_far
      → IsPeak box (take (suc k) numbers) (bounds_sum so_far top)
  grow top Nothing t p = record {
    most = λ z e. absurd (none-some z e);
    reached = λ z e. absurd (none-some z e);
    unbounded = λ e z.
        let x : ℤ = number k some.0 in
        let r = p.unbounded refl (z -ℤ (number k numbers *ℤ x)) in
        let c = changed r.0 x r.1 (inside_at some.0 some.1) in
        (set r.0 k x, c.0, enough z (number k numbers *ℤ x) (dot (take k numbers) r.0) _ c.1 r.2);
  }
    where
      enough : (z a b whole : ℤ) → whole ≡ b +ℤ a → (z -ℤ a) ≤ℤ b → z ≤ℤ whole
      enough z a b whole e l = omega (arith, ints)
  grow Nothing (Some y) t p = record {
    most = λ z e. absurd (none-some z e);
    reached = λ z e. absurd (none-some z e);
    unbounded = λ e z.
        let r = p.reached y refl in
        let u = t.unbounded refl (z -ℤ y) in
        let c = changed r.0 u.0 r.1 u.1 in
        (set r.0 k u.0, c.0, enough z y (number k numbers *ℤ u.0) (dot (take k numbers) r.0) _ c.1 r.2 u.2);
  }
    where
      enough : (z y a b whole : ℤ) → whole ≡ b +ℤ a → b ≡ y → (z -ℤ y) ≤ℤ a → z ≤ℤ whole
      enough z y a b whole e f l = omega (arith, ints)
  grow (Some b) (Some y) t p = record {
    most = λ z e point w. apart point y b z (same_Some (y +ℤ b) z e) (p.most y refl point w) (t.most b refl (number k point) (inside_at point w));
    reached = λ z e.
        let r = p.reached y refl in
        let u = t.reached b refl in
        let c = changed r.0 u.0 r.1 u.1 in
        (set r.0 k u.0, c.0, exactly y b z (number k numbers *ℤ u.0) (dot (take k numbers) r.0) _ c.1 r.2 u.2 (same_Some (y +ℤ b) z e));
    unbounded = λ e. some_none (y +ℤ b) e;
  }
    where
      exactly : (y b z a d whole : ℤ) → whole ≡ d +ℤ a → d ≡ y → a ≡ b → y +ℤ b ≡ z → whole ≡ z
      exactly y b z a d whole e f g h = omega (arith, ints)

  -- one column more
  pub peak_more : (so_far next : Option ℤ) → next ≡ bounds_sum so_far (top_of (number k numbers) (interval_at box k)) → IsPeak box (take k numbers) so_far
      → IsPeak box (take (suc k) numbers) next
  peak_more so_far next e p =
      subst (λ (o : Option ℤ). IsPeak box (take (suc k) numbers) o) (sym e)
      (grow (top_of (number k numbers) (interval_at box k)) so_far
      (column_top (interval_at box k) (number k numbers) (number k some.0) (inside_at some.0 some.1)) p)
