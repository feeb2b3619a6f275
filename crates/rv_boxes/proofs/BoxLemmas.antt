-- Points of the box of premises.
use Rattle.std.proofs.Common.{◌≡◌, ◌≢◌, ℕ, zero, suc, ◌<◌, ◌≤◌, ℤ, pos, negsuc, ◌+ℤ◌, ◌-ℤ◌, ◌*ℤ◌, ◌≤ℤ◌, ◌<ℤ◌, List, [], ◌∷◌, length, Option, Some, None, IfSome}
use Rattle.std.proofs.Common.{arith, refl, sym, ◌∙◌, subst, ◌⊎◌, inl, inr}
use Rattle.std.proofs.{Math.IntN.*ℤ-zero, Math.IntN.zero-*ℤ, lemmas.Int.ints, lemmas.Int.by_lt_z, lemmas.Bool.cases_lt, lemmas.Bool.cases_eq}
use Rattle.std.proofs.{lemmas.List.get_or_past}
use Rattle.rv_rows.specs.{declared.linear.Row.Row, Rows.dot, Rows.Holds, Rows.coefficient, Rows.row_at, Forms.number}
use Rattle.rv_rows.proofs.IntLemmas.{mul_add}
use Rattle.rv_proofs.specs.Boxes.{HasOneColumn, IsUnitAt}
use Rattle.rv_boxes.specs.{declared.ends.End.End, Ends.IsClosest, Ends.IsEnd, Ends.AreEnds, Ends.end_at, Boxed.IsBoxed, Boxed.HasBoxed, Boxed.ArePremises}
use Rattle.rv_boxes.specs.{Boxed.IsCrossed}

-- sums over points
dot-zeros : (cs xs : List ℤ) → ((n : ℕ) → number n cs ≡ pos 0) → dot cs xs ≡ pos 0
dot-zeros [] xs h = refl
dot-zeros (c ∷ cs) [] h = refl
dot-zeros (c ∷ cs) (x ∷ xs) h =
    let e : c ≡ pos 0 = h 0 in
    let r : dot cs xs ≡ pos 0 = dot-zeros cs xs (λ n. let g : number (suc n) (c ∷ cs) ≡ pos 0 = h (suc n) in g) in
    rw (e, r, zero-*ℤ x) refl

dot-unit : (cs : List ℤ) (k : ℕ) (c : ℤ) (xs : List ℤ) → number k cs ≡ c → ((n : ℕ) → n ≢ k → number n cs ≡ pos 0) → dot cs xs ≡ c *ℤ number k xs
dot-unit [] k c xs h others = let e : pos 0 ≡ c = h in rw (sym e) (sym (zero-*ℤ (number k xs)))
dot-unit (a ∷ cs) k c [] h others = sym (*ℤ-zero c)
dot-unit (a ∷ cs) zero c (x ∷ xs) h others =
    let e : a ≡ c = h in
    let r : dot cs xs ≡ pos 0 = dot-zeros cs xs (λ n. others (suc n) (λ (q : suc n ≡ 0). omega arith)) in
    rw (e, r) (plus-none (c *ℤ x))
  where
    plus-none : (z : ℤ) → z +ℤ pos 0 ≡ z
    plus-none z = omega (arith, ints)
dot-unit (a ∷ cs) (suc k) c (x ∷ xs) h others =
    let e : a ≡ pos 0 = others 0 (λ (q : 0 ≡ suc k). omega arith) in
    let r : dot cs xs ≡ c *ℤ number k xs = dot-unit cs k c xs h (λ n ne. others (suc n) (λ (q : suc n ≡ suc k). ne (omega arith))) in
    rw (e, r, zero-*ℤ x) (none-plus (c *ℤ number k xs))
  where
    none-plus : (z : ℤ) → pos 0 +ℤ z ≡ z
    none-plus z = omega (arith, ints)

pub unit_value : (r : Row) (k : ℕ) (c : ℤ) (point : List ℤ) → IsUnitAt r k c → dot r.coefficients point ≡ c *ℤ number k point
unit_value r k c point u = dot-unit r.coefficients k c point u.here u.others

-- a row that has two columns alone
pub unit_once : (r : Row) (j k : ℕ) (c d : ℤ) → c ≢ pos 0 → IsUnitAt r j c → IsUnitAt r k d → j ≡ k
unit_once r j k c d ne u v = go (cases_eq j k)
  where
    go : (j ≡ k) ⊎ (j ≢ k) → j ≡ k
    go (inl e) = e
    go (inr n) = absurd (ne (sym u.here ∙ v.others j n))

pub unit_has_one : (r : Row) (k : ℕ) (c : ℤ) → c ≢ pos 0 → IsUnitAt r k c → HasOneColumn r
unit_has_one r k c ne u = (k, (λ (e : coefficient k r ≡ pos 0). ne (sym u.here ∙ e)), (λ n h. go n h (cases_eq n k)))
  where
    go : (n : ℕ) → coefficient n r ≢ pos 0 → (n ≡ k) ⊎ (n ≢ k) → n ≡ k
    go n h (inl e) = e
    go n h (inr apart) = absurd (h (u.others n apart))

-- the point whose numbers a function gives
abbrev pub listed : (ℕ → ℤ) → ℕ → List ℤ
listed f zero = []
listed f (suc n) = f 0 ∷ listed (λ k. f (suc k)) n

pub length-listed : (f : ℕ → ℤ) (n : ℕ) → length (listed f n) ≡ n
length-listed f zero = refl
length-listed f (suc n) = omega (arith, length-listed (λ k. f (suc k)) n)

pub number-listed : (f : ℕ → ℤ) (n k : ℕ) → k < n → number k (listed f n) ≡ f k
number-listed f zero k l = absurd (omega arith)
number-listed f (suc n) zero l = refl
number-listed f (suc n) (suc k) l = number-listed (λ j. f (suc j)) n k (omega arith)

pub dot-listed-add : (cs : List ℤ) (f g : ℕ → ℤ) (n : ℕ) → dot cs (listed (λ k. f k +ℤ g k) n) ≡ dot cs (listed f n) +ℤ dot cs (listed g n)
dot-listed-add [] f g n = refl
dot-listed-add (c ∷ cs) f g zero = refl
dot-listed-add (c ∷ cs) f g (suc n) = rw (mul_add c (f 0) (g 0), dot-listed-add cs (λ k. f (suc k)) (λ k. g (suc k)) n)
    (swap (c *ℤ f 0) (c *ℤ g 0) (dot cs (listed (λ k. f (suc k)) n)) (dot cs (listed (λ k. g (suc k)) n)))
  where
    swap : (a b x y : ℤ) → (a +ℤ b) +ℤ (x +ℤ y) ≡ (a +ℤ x) +ℤ (b +ℤ y)
    swap a b x y = omega (arith, ints)

dot-listed-none : (cs : List ℤ) (g : ℕ → ℤ) (n : ℕ) → ((j : ℕ) → g j ≡ pos 0) → dot cs (listed g n) ≡ pos 0
dot-listed-none [] g n h = refl
dot-listed-none (c ∷ cs) g zero h = refl
dot-listed-none (c ∷ cs) g (suc n) h = rw (h 0, dot-listed-none cs (λ k. g (suc k)) n (λ j. h (suc j)), *ℤ-zero c) refl

pub dot-listed-one : (cs : List ℤ) (g : ℕ → ℤ) (n k : ℕ) → k < n → ((j : ℕ) → j ≢ k → g j ≡ pos 0) → dot cs (listed g n) ≡ number k cs *ℤ g k
dot-listed-one [] g n k l h = sym (zero-*ℤ (g k))
dot-listed-one (c ∷ cs) g zero k l h = absurd (omega arith)
dot-listed-one (c ∷ cs) g (suc n) zero l h =
    rw (dot-listed-none cs (λ j. g (suc j)) n (λ j. h (suc j) (λ (q : suc j ≡ 0). omega arith))) (plus-none (c *ℤ g 0))
  where
    plus-none : (z : ℤ) → z +ℤ pos 0 ≡ z
    plus-none z = omega (arith, ints)
dot-listed-one (c ∷ cs) g (suc n) (suc k) l h =
    rw (
      h 0 (λ (q : 0 ≡ suc k). omega arith),
      dot-listed-one cs (λ j. g (suc j)) n k (omega arith)
          (λ j ne. h (suc j) (λ (q : suc j ≡ suc k). ne (omega arith))),
      *ℤ-zero c,
    )
    (none-plus (number k cs *ℤ g (suc k)))
  where
    none-plus : (z : ℤ) → pos 0 +ℤ z ≡ z
    none-plus z = omega (arith, ints)

-- a number between the ends of a column
pub record InEnd (rows : List Row) (e : End) (x : ℤ) : Type 0 where
  pub high : (p : ℕ) → e.high ≡ Some p → x ≤ℤ (row_at rows p).bound
  pub low : (p : ℕ) → e.low ≡ Some p → pos 0 ≤ℤ (x +ℤ (row_at rows p).bound)

pub closest : (rows : List Row) (n k : ℕ) (c : ℤ) (o : Option ℕ) (p : ℕ) → IsEnd rows n k c o → o ≡ Some p → IsClosest rows n k c p
closest rows n k c o p h e = subst (λ q. IfSome q (IsClosest rows n k c)) e h.some

module _ (width : ℕ) (rows : List Row) (pre : ArePremises width rows) (ends : List End) (are : AreEnds rows width ends) where
  unit_inside : (p k : ℕ) (c : ℤ) → p < length rows → c ≢ pos 0 → IsUnitAt (row_at rows p) k c → k < width
  unit_inside p k c l ne u = go (cases_lt k (length (row_at rows p).coefficients))
    where
      go : (k < length (row_at rows p).coefficients) ⊎ (length (row_at rows p).coefficients ≤ k) → k < width
      go (inl m) = let w = pre.wide p l in omega arith
      go (inr m) = absurd (ne (sym u.here ∙ get_or_past (row_at rows p).coefficients k (pos 0) m))

  -- a point between the ends of each column is one of the box
  pub boxed_from : (f : ℕ → ℤ) → ((k : ℕ) → k < width → InEnd rows (end_at ends k) (f k)) → IsBoxed width rows (listed f width)
  boxed_from f inside = record { size = length-listed f width; holds = λ p l one. holds p l (pre.units p l one) }
    where
      up : (p k : ℕ) (o : Option ℕ) → p < length rows → k < width → (end_at ends k).high ≡ o → IsUnitAt (row_at rows p) k (pos 1)
          → Holds (row_at rows p) (listed f width)
      up p k None l m e u = let end : IsEnd rows (length rows) k (pos 1) None = subst (IsEnd rows (length rows) k (pos 1)) e (are.each k m).high in
          absurd (end.none p l u)
      up p k (Some q) l m e u =
          let end = closest rows (length rows) k (pos 1) (end_at ends k).high q (are.each k m).high e in
          let best : (row_at rows q).bound ≤ℤ (row_at rows p).bound = end.closest p l u in
          let x : f k ≤ℤ (row_at rows q).bound = (inside k m).high q e in
          let d = unit_value (row_at rows p) k (pos 1) (listed f width) u in
          let n = number-listed f width k m in
          below _ _ _ _ _ d n x best
        where
          below : (s y z b a : ℤ) → s ≡ pos 1 *ℤ y → y ≡ z → z ≤ℤ b → b ≤ℤ a → s ≤ℤ a
          below s y z b a g h i j = omega (arith, ints)

      down : (p k : ℕ) (o : Option ℕ) → p < length rows → k < width → (end_at ends k).low ≡ o → IsUnitAt (row_at rows p) k (negsuc 0)
          → Holds (row_at rows p) (listed f width)
      down p k None l m e u = let end : IsEnd rows (length rows) k (negsuc 0) None = subst (IsEnd rows (length rows) k (negsuc 0)) e
          (are.each k m).low in absurd (end.none p l u)
      down p k (Some q) l m e u =
          let end = closest rows (length rows) k (negsuc 0) (end_at ends k).low q (are.each k m).low e in
          let best : (row_at rows q).bound ≤ℤ (row_at rows p).bound = end.closest p l u in
          let x : pos 0 ≤ℤ (f k +ℤ (row_at rows q).bound) = (inside k m).low q e in
          let d = unit_value (row_at rows p) k (negsuc 0) (listed f width) u in
          let n = number-listed f width k m in
          below _ _ _ _ _ d n x best
        where
          below : (s y z b a : ℤ) → s ≡ negsuc 0 *ℤ y → y ≡ z → pos 0 ≤ℤ (z +ℤ b) → b ≤ℤ a → s ≤ℤ a
          below s y z b a g h i j = omega (arith, ints)

      holds : (p : ℕ) → p < length rows → (k : ℕ) × (IsUnitAt (row_at rows p) k (pos 1) ⊎ IsUnitAt (row_at rows p) k (negsuc 0))
          → Holds (row_at rows p) (listed f width)
      holds p l (k, inl u) = up p k (end_at ends k).high l (unit_inside p k (pos 1) l (λ (q : pos 1 ≡ pos 0). omega (arith, ints)) u) refl u
      holds p l (k, inr u) = down p k (end_at ends k).low l (unit_inside p k (negsuc 0) l (λ (q : negsuc 0 ≡ pos 0). omega (arith, ints)) u) refl u

  -- a point of the box is between the ends of each column
  pub boxed_within : (point : List ℤ) → IsBoxed width rows point → (k : ℕ) → k < width → InEnd rows (end_at ends k) (number k point)
  boxed_within point b k l = record { high = high; low = low }
    where
      high : (p : ℕ) → (end_at ends k).high ≡ Some p → number k point ≤ℤ (row_at rows p).bound
      high p e =
          let end = closest rows (length rows) k (pos 1) (end_at ends k).high p (are.each k l).high e in
          let h : dot (row_at rows p).coefficients point ≤ℤ (row_at rows p).bound = b.holds p end.there
          (unit_has_one (row_at rows p) k (pos 1) (λ (q : pos 1 ≡ pos 0). omega (arith, ints)) end.unit) in
          below _ _ _ (unit_value (row_at rows p) k (pos 1) point end.unit) h
        where
          below : (s y a : ℤ) → s ≡ pos 1 *ℤ y → s ≤ℤ a → y ≤ℤ a
          below s y a g h = omega (arith, ints)

      low : (p : ℕ) → (end_at ends k).low ≡ Some p → pos 0 ≤ℤ (number k point +ℤ (row_at rows p).bound)
      low p e =
          let end = closest rows (length rows) k (negsuc 0) (end_at ends k).low p (are.each k l).low e in
          let h : dot (row_at rows p).coefficients point ≤ℤ (row_at rows p).bound = b.holds p end.there
          (unit_has_one (row_at rows p) k (negsuc 0) (λ (q : negsuc 0 ≡ pos 0). omega (arith, ints)) end.unit) in
          below _ _ _ (unit_value (row_at rows p) k (negsuc 0) point end.unit) h
        where
          below : (s y a : ℤ) → s ≡ negsuc 0 *ℤ y → s ≤ℤ a → pos 0 ≤ℤ (y +ℤ a)
          below s y a g h = omega (arith, ints)

  -- columns that are crossed leave no point
  pub crossed_none : (k : ℕ) → k < width → IsCrossed rows (end_at ends k) → ¬ HasBoxed width rows
  crossed_none k l x (point, b) =
      let i = boxed_within point b k l in
      let h = i.high x.high x.is_high in
      let m = i.low x.low x.is_low in
      let c = x.crossed in
      omega (arith, ints)

abbrev pub at_high : List Row → Option ℕ → Option ℕ → ℤ
at_high rows (Some p) low = (row_at rows p).bound
at_high rows None (Some q) = pos 0 -ℤ (row_at rows q).bound
at_high rows None None = pos 0

abbrev pub at_low : List Row → Option ℕ → Option ℕ → ℤ
at_low rows high (Some q) = pos 0 -ℤ (row_at rows q).bound
at_low rows (Some p) None = (row_at rows p).bound
at_low rows None None = pos 0

module _ (rows : List Row) (e : End) (open' : ¬ IsCrossed rows e) where
  apart : (p q : ℕ) → e.high ≡ Some p → e.low ≡ Some q → pos 0 ≤ℤ ((row_at rows q).bound +ℤ (row_at rows p).bound)
  apart p q h l = by_lt_z ((row_at rows q).bound +ℤ (row_at rows p).bound) (pos 0)
      (λ (c : ((row_at rows q).bound +ℤ (row_at rows p).bound) <ℤ pos 0). absurd (open' (record { low = q; high = p; is_low = l; is_high = h; crossed = c })))
      (λ (c : pos 0 ≤ℤ ((row_at rows q).bound +ℤ (row_at rows p).bound)). c)

  pub high_in : InEnd rows e (at_high rows e.high e.low)
  high_in = record { high = λ p h. high p h; low = λ q l. low q l e.high refl }
    where
      high : (p : ℕ) → e.high ≡ Some p → at_high rows e.high e.low ≤ℤ (row_at rows p).bound
      high p h = rw h (omega (arith, ints))

      low : (q : ℕ) → e.low ≡ Some q → (o : Option ℕ) → e.high ≡ o → pos 0 ≤ℤ (at_high rows e.high e.low +ℤ (row_at rows q).bound)
      low q l None h = rw (h, l) (omega (arith, ints))
      low q l (Some p) h = let a = apart p q h l in rw (h, l) (omega (arith, ints))

  pub low_in : InEnd rows e (at_low rows e.high e.low)
  low_in = record { high = λ p h. high p h e.low refl; low = λ q l. low q l }
    where
      low : (q : ℕ) → e.low ≡ Some q → pos 0 ≤ℤ (at_low rows e.high e.low +ℤ (row_at rows q).bound)
      low q l = rw l (omega (arith, ints))

      high : (p : ℕ) → e.high ≡ Some p → (o : Option ℕ) → e.low ≡ o → at_low rows e.high e.low ≤ℤ (row_at rows p).bound
      high p h None l = rw (h, l) (omega (arith, ints))
      high p h (Some q) l = let a = apart p q h l in rw (h, l) (omega (arith, ints))
