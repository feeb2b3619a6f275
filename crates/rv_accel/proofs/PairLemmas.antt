-- The closed form of the cone of rows along a direction.
use Rattle.std.proofs.Common.{◌≡◌, ℕ, suc, ◌+◌, ℤ, pos, negsuc, ◌+ℤ◌, ◌-ℤ◌, ◌*ℤ◌, ◌≤ℤ◌, ◌<ℤ◌, List, ◌∷◌, All, Option, Some, None, map, get_or}
use Rattle.std.proofs.Common.{arith, ap, sym, ◌∙◌, ◌↔◌}
use Rattle.std.proofs.{lemmas.Int.ints, Math.IntN.*ℤ-zero}
use Rattle.std.proofs.lemmas.List.Elements.{All-cons, All-map, All-contains, Contains-get_or}
use Rattle.std.proofs.lemmas.List.{length-map, get_or-map}
use Rattle.std.specs.{List.Contains, Int.RustNames.unsigned_abs}
use Rattle.rv_rows.specs.{declared.linear.Row.Row, Rows.dot, Rows.Holds}
use Rattle.rv_rows.proofs.IntLemmas.{mul_add, mul_assoc_int, mul_comm_int, mul_mono}
use Rattle.rv_poly.proofs.Lines.{Solution, solve, cancel, mul_neg}
use Rattle.rv_proofs.specs.Cones.{IsInCone}
use Rattle.rv_accel.specs.Pairs.{gain, HoldsLevelled, MeetsLevels}

swap : (a b c : ℤ) → a *ℤ (b *ℤ c) ≡ b *ℤ (a *ℤ c)
swap a b c = sym (mul_assoc_int a b c) ∙ ap (λ z. z *ℤ c) (mul_comm_int a b) ∙ mul_assoc_int b a c

pub mul_sub : (m x y : ℤ) → m *ℤ (x -ℤ y) ≡ (m *ℤ x) -ℤ (m *ℤ y)
mul_sub m x y = move _ _ _ (sym (mul_add m (x -ℤ y) y) ∙ ap (λ z. m *ℤ z) (back x y))
  where
    back : (x y : ℤ) → (x -ℤ y) +ℤ y ≡ x
    back x y = omega (arith, ints)

    move : (a b c : ℤ) → a +ℤ b ≡ c → a ≡ c -ℤ b
    move a b c e = omega (arith, ints)

pub neg_mul : (a b : ℤ) → (pos 0 -ℤ a) *ℤ b ≡ pos 0 -ℤ (a *ℤ b)
neg_mul a b = mul_comm_int (pos 0 -ℤ a) b ∙ mul_neg b a ∙ ap (λ z. pos 0 -ℤ z) (mul_comm_int b a)

-- Rows, and that the number of steps is not negative, as bounds of that number.
module _ (t x : List ℤ) where
  slope : Option Row → ℤ
  slope None = negsuc 0
  slope (Some r) = pos 0 -ℤ gain t r

  slack : Option Row → ℤ
  slack None = pos 0
  slack (Some r) = r.bound -ℤ dot r.coefficients x

  module _ (rows : List Row) (level : (r : Row) → Contains rows r → gain t r ≤ℤ pos 0 → Holds r x)
      (pairs : (p q : Row) → Contains rows p → Contains rows q → pos 0 <ℤ gain t p → gain t q <ℤ pos 0 → HoldsLevelled t x p q) where
    lines : List (Option Row)
    lines = None ∷ map Some rows

    each : (P : Option Row → Type 0) → P None → ((r : Row) → Contains rows r → P (Some r)) → All P lines
    unfolding lines
    each P none some = All-cons P None (map Some rows) none
        (All-map P Some rows (λ i d l. some (get_or rows i d) (Contains-get_or rows i d l)))

    free : All (λ y. slope y ≡ pos 0 → pos 0 ≤ℤ slack y) lines
    unfolding slope slack
    free = each (λ y. slope y ≡ pos 0 → pos 0 ≤ℤ slack y) (λ e. omega (arith, ints)) (λ r c e. at r (level r c (low (gain t r) e)))
      where
        low : (g : ℤ) → pos 0 -ℤ g ≡ pos 0 → g ≤ℤ pos 0
        low g e = omega (arith, ints)

        at : (r : Row) → Holds r x → pos 0 ≤ℤ (r.bound -ℤ dot r.coefficients x)
        at r h = omega (arith, ints)

    pair_rows : (p q : Row) → Contains rows p → Contains rows q → pos 0 <ℤ (pos 0 -ℤ gain t p) → (pos 0 -ℤ gain t q) <ℤ pos 0
        → pos 0 ≤ℤ (((pos 0 -ℤ (pos 0 -ℤ gain t q)) *ℤ (p.bound -ℤ dot p.coefficients x)) +ℤ ((pos 0 -ℤ gain t p) *ℤ (q.bound -ℤ dot q.coefficients x)))
    pair_rows p q cp cq hp hq =
        let up : pos 0 <ℤ gain t q = positive (gain t q) hq in
        let down : gain t p <ℤ pos 0 = negative (gain t p) hp in
        let h = pairs q p cq cp up down in
        let e = back (gain t q) in
        finish (gain t q *ℤ (p.bound -ℤ dot p.coefficients x)) ((pos 0 -ℤ gain t p) *ℤ (q.bound -ℤ dot q.coefficients x)) (gain t q *ℤ p.bound)
        (gain t q *ℤ dot p.coefficients x) ((pos 0 -ℤ gain t p) *ℤ q.bound) ((pos 0 -ℤ gain t p) *ℤ dot q.coefficients x)
        ((pos 0 -ℤ (pos 0 -ℤ gain t q)) *ℤ (p.bound -ℤ dot p.coefficients x))
        (mul_sub (gain t q) p.bound (dot p.coefficients x)) (mul_sub (pos 0 -ℤ gain t p) q.bound (dot q.coefficients x))
        (ap (λ z. z *ℤ (p.bound -ℤ dot p.coefficients x)) e) h
      where
        positive : (g : ℤ) → (pos 0 -ℤ g) <ℤ pos 0 → pos 0 <ℤ g
        positive g h = omega (arith, ints)

        negative : (g : ℤ) → pos 0 <ℤ (pos 0 -ℤ g) → g <ℤ pos 0
        negative g h = omega (arith, ints)

        back : (g : ℤ) → pos 0 -ℤ (pos 0 -ℤ g) ≡ g
        back g = omega (arith, ints)

        finish : (s w a b c d y : ℤ) → s ≡ a -ℤ b → w ≡ c -ℤ d → y ≡ s → (d +ℤ b) ≤ℤ (c +ℤ a) → pos 0 ≤ℤ (y +ℤ w)
        finish s w a b c d y g h e k = omega (arith, ints)

    pair_none : (p : Row) → Contains rows p → pos 0 <ℤ (pos 0 -ℤ gain t p)
        → pos 0 ≤ℤ (((pos 0 -ℤ negsuc 0) *ℤ (p.bound -ℤ dot p.coefficients x)) +ℤ ((pos 0 -ℤ gain t p) *ℤ pos 0))
    pair_none p cp hp = finish (gain t p) p.bound (dot p.coefficients x) (level p cp (low (gain t p) hp)) (*ℤ-zero (pos 0 -ℤ gain t p))
      where
        low : (g : ℤ) → pos 0 <ℤ (pos 0 -ℤ g) → g ≤ℤ pos 0
        low g h = omega (arith, ints)

        one : (z : ℤ) → (pos 0 -ℤ negsuc 0) *ℤ z ≡ z
        one z = omega (arith, ints)

        finish : (g b d : ℤ) → d ≤ℤ b → (pos 0 -ℤ g) *ℤ pos 0 ≡ pos 0 → pos 0 ≤ℤ (((pos 0 -ℤ negsuc 0) *ℤ (b -ℤ d)) +ℤ ((pos 0 -ℤ g) *ℤ pos 0))
        finish g b d h e = rw (one (b -ℤ d), e) (omega (arith, ints))

    all_pairs : All (λ p. All (λ q. pos 0 <ℤ slope p → slope q <ℤ pos 0 → pos 0 ≤ℤ (((pos 0 -ℤ slope q) *ℤ slack p) +ℤ (slope p *ℤ slack q))) lines) lines
    unfolding slope slack
    all_pairs = each
        (λ p. All (λ q. pos 0 <ℤ slope p → slope q <ℤ pos 0 → pos 0 ≤ℤ (((pos 0 -ℤ slope q) *ℤ slack p) +ℤ (slope p *ℤ slack q))) lines)
        (each (λ q. pos 0 <ℤ slope None → slope q <ℤ pos 0 → pos 0 ≤ℤ (((pos 0 -ℤ slope q) *ℤ slack None) +ℤ (slope None *ℤ slack q)))
        (λ h k. absurd (never h)) (λ q c h k. absurd (never h)))
        (λ p cp. each (λ q. pos 0 <ℤ slope (Some p) → slope q <ℤ pos 0 → pos 0 ≤ℤ (((pos 0 -ℤ slope q) *ℤ slack (Some p)) +ℤ (slope (Some p) *ℤ slack q)))
        (λ h k. pair_none p cp h) (λ q cq h k. pair_rows p q cp cq h k))
      where
        never : pos 0 <ℤ negsuc 0 → ⊥
        never h = omega (arith, ints)

    -- a point that meets the closed form is in the cone
    pub levels_in_cone : IsInCone rows t x
    unfolding slope slack lines
    levels_in_cone =
        let s : Solution (Option Row) slope slack lines = solve (Option Row) slope slack lines free all_pairs in
        let first : (slope None *ℤ s.at) ≤ℤ (pos s.factor *ℤ slack None) = s.holds 0 None (omega arith) in
        (s.factor, unsigned_abs s.at, s.positive, rows_hold s.factor s.at (steps s.at s.factor first) s.holds)
      where
        steps : (z : ℤ) (m : ℕ) → (negsuc 0 *ℤ z) ≤ℤ (pos m *ℤ pos 0) → pos 0 ≤ℤ z
        steps z m h = let e = *ℤ-zero (pos m) in omega (arith, ints)

        among : (r : Row) → Contains rows r → Contains (None ∷ map Some rows) (Some r)
        among r (i, l, e) = (
          i + 1,
          (let n = length-map rows (λ (q : Row). Some q) in omega arith),
          rw (next i)
              (get_or-map (λ (q : Row). Some q) rows i r (Some r) l ∙ ap (λ (q : Row). Some q) e),
        )
          where
            next : (i : ℕ) → i + 1 ≡ suc i
            next i = omega arith

        at_row : (m : ℕ) (z : ℤ) → pos 0 ≤ℤ z → (r : Row) → ((pos 0 -ℤ gain t r) *ℤ z) ≤ℤ (pos m *ℤ (r.bound -ℤ dot r.coefficients x))
            → ((pos m *ℤ dot r.coefficients x) -ℤ (pos (unsigned_abs z) *ℤ dot r.coefficients t)) ≤ℤ (pos m *ℤ r.bound)
        at_row m z h r k =
            let e : pos (unsigned_abs z) ≡ z = omega (arith, ints) in
            rw e (finish ((pos 0 -ℤ gain t r) *ℤ z) (z *ℤ gain t r) (pos m *ℤ (r.bound -ℤ dot r.coefficients x)) (pos m *ℤ r.bound)
            (pos m *ℤ dot r.coefficients x) (neg_mul (gain t r) z ∙ ap (λ y. pos 0 -ℤ y) (mul_comm_int (gain t r) z))
            (mul_sub (pos m) r.bound (dot r.coefficients x)) k)
          where
            finish : (u g w b d : ℤ) → u ≡ pos 0 -ℤ g → w ≡ b -ℤ d → u ≤ℤ w → (d -ℤ g) ≤ℤ b
            finish u g w b d e h k = omega (arith, ints)

        rows_hold : (m : ℕ) (z : ℤ) → pos 0 ≤ℤ z → All (λ y. (slope y *ℤ z) ≤ℤ (pos m *ℤ slack y)) lines
            → All (λ r. ((pos m *ℤ dot r.coefficients x) -ℤ (pos (unsigned_abs z) *ℤ dot r.coefficients t)) ≤ℤ (pos m *ℤ r.bound)) rows
        rows_hold m z k h i d l = at_row m z k (get_or rows i d)
            (All-contains (λ y. (slope y *ℤ z) ≤ℤ (pos m *ℤ slack y)) lines (Some (get_or rows i d)) h (among (get_or rows i d) (Contains-get_or rows i d l)))

-- and a point of the cone meets it
module _ (t x : List ℤ) (rows : List Row) (cone : IsInCone rows t x) where
  pub cone_level : (r : Row) → Contains rows r → gain t r ≤ℤ pos 0 → Holds r x
  cone_level r c low = go cone
    where
      go : IsInCone rows t x → Holds r x
      go (d, k, some, all) =
          let h = All-contains (λ r. ((pos d *ℤ dot r.coefficients x) -ℤ (pos k *ℤ dot r.coefficients t)) ≤ℤ (pos d *ℤ r.bound)) rows r all c in
          let m = mul_mono (pos k) (gain t r) (pos 0) (omega (arith, ints)) low in
          cancel (pos d) (dot r.coefficients x) r.bound (omega (arith, ints)) (step _ _ _ _ m (*ℤ-zero (pos k)) h)
        where
          step : (a g b z : ℤ) → g ≤ℤ z → z ≡ pos 0 → (a -ℤ g) ≤ℤ b → a ≤ℤ b
          step a g b z h e k = omega (arith, ints)

  pub cone_pairs : (p q : Row) → Contains rows p → Contains rows q → pos 0 <ℤ gain t p → gain t q <ℤ pos 0 → HoldsLevelled t x p q
  cone_pairs p q cp cq up down = go cone
    where
      go : IsInCone rows t x → HoldsLevelled t x p q
      go (d, k, some, all) =
          let P : Row → Type 0 = λ r. ((pos d *ℤ dot r.coefficients x) -ℤ (pos k *ℤ dot r.coefficients t)) ≤ℤ (pos d *ℤ r.bound) in
          let hp = All-contains P rows p all cp in
          let hq = All-contains P rows q all cq in
          let u = pos 0 -ℤ gain t q in
          let v = gain t p in
          let mp = mul_mono u ((pos d *ℤ dot p.coefficients x) -ℤ (pos k *ℤ gain t p)) (pos d *ℤ p.bound) (omega (arith, ints)) hp in
          let mq = mul_mono v ((pos d *ℤ dot q.coefficients x) -ℤ (pos k *ℤ gain t q)) (pos d *ℤ q.bound) (omega (arith, ints)) hq in
          cancel (pos d) ((u *ℤ dot p.coefficients x) +ℤ (v *ℤ dot q.coefficients x)) ((u *ℤ p.bound) +ℤ (v *ℤ q.bound)) (omega (arith, ints))
          (join (pos d *ℤ ((u *ℤ dot p.coefficients x) +ℤ (v *ℤ dot q.coefficients x))) (pos d *ℤ ((u *ℤ p.bound) +ℤ (v *ℤ q.bound)))
          (pos d *ℤ (u *ℤ dot p.coefficients x)) (pos d *ℤ (v *ℤ dot q.coefficients x)) (pos d *ℤ (u *ℤ p.bound)) (pos d *ℤ (v *ℤ q.bound))
          (u *ℤ (pos k *ℤ gain t p)) (v *ℤ (pos k *ℤ gain t q)) _ _ _ _
          (mul_add (pos d) (u *ℤ dot p.coefficients x) (v *ℤ dot q.coefficients x)) (mul_add (pos d) (u *ℤ p.bound) (v *ℤ q.bound))
          (mul_sub u (pos d *ℤ dot p.coefficients x) (pos k *ℤ gain t p) ∙ ap (λ z. z -ℤ (u *ℤ (pos k *ℤ gain t p))) (swap u (pos d) (dot p.coefficients x)))
          (mul_sub v (pos d *ℤ dot q.coefficients x) (pos k *ℤ gain t q) ∙ ap (λ z. z -ℤ (v *ℤ (pos k *ℤ gain t q))) (swap v (pos d) (dot q.coefficients x)))
          (swap u (pos d) p.bound) (swap v (pos d) q.bound) (level (pos k) (gain t p) (gain t q)) mp mq)
        where
          -- the steps cancel
          level : (k g h : ℤ) → ((pos 0 -ℤ h) *ℤ (k *ℤ g)) +ℤ (g *ℤ (k *ℤ h)) ≡ pos 0
          level k g h = none _ _ _ (neg_mul h (k *ℤ g)) (swap h k g ∙ ap (λ z. k *ℤ z) (mul_comm_int h g) ∙ swap k g h)
            where
              none : (a b c : ℤ) → a ≡ pos 0 -ℤ b → b ≡ c → a +ℤ c ≡ pos 0
              none a b c e f = omega (arith, ints)

          join : (l r lp lq rp rq kp kq mp nq bp bq : ℤ) → l ≡ lp +ℤ lq → r ≡ rp +ℤ rq → mp ≡ lp -ℤ kp → nq ≡ lq -ℤ kq → bp ≡ rp → bq ≡ rq
              → kp +ℤ kq ≡ pos 0 → mp ≤ℤ bp → nq ≤ℤ bq → l ≤ℤ r
          join l r lp lq rp rq kp kq mp nq bp bq e1 e2 e3 e4 e5 e6 e7 h k = omega (arith, ints)

pub cone_is_levels : (rows : List Row) (t x : List ℤ) → MeetsLevels t rows rows x ↔ IsInCone rows t x
cone_is_levels rows t x = (
  (λ m. levels_in_cone t x rows m.level m.pairs),
  (λ cone. record { level = cone_level t x rows cone; pairs = cone_pairs t x rows cone }),
)
