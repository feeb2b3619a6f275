-- Points of boxes, and where a row is met.
use Rattle.std.proofs.Common.{◌≡◌, ℕ, zero, suc, ◌<◌, ◌≤◌, ℤ, pos, ◌+ℤ◌, ◌-ℤ◌, ◌*ℤ◌, ◌≤ℤ◌, ◌<ℤ◌, List, []}
use Rattle.std.proofs.Common.{◌∷◌, map, length, Option, Some, slice_get, get_or, take, ◌++◌, ◌+◌, refl, sym, ap, ◌∙◌, arith}
use Rattle.std.proofs.Common.{None as Nothing}
use Rattle.std.specs.Prelude.{slice_index_or, All, ◌^◌}
use Rattle.std.specs.Int.RustNames.{unsigned_abs}
use Rattle.std.proofs.lemmas.Option.{none-some, same_Some, slice_get_within, get_or_from_slice_get}
use Rattle.std.proofs.{Math.IntN.zero-*ℤ, lemmas.Int.ints, lemmas.Int.by_lt_z, lemmas.List.length-map, lemmas.List.take_more, lemmas.List.map-append}
use Rattle.rv_rows.specs.{declared.linear.Row.Row, Rows.dot, Forms.number}
use Rattle.rv_rows.proofs.IntLemmas.{add_mul}
use Rattle.rv_ends.specs.{declared.ends.Ends.Ends}
use Rattle.rv_ends.specs.Intervals.{Interval, IsInside, interval_at, HasPoint, IsPeak}
use Rattle.rv_taken.specs.Meeting.{opposite, IsCrossed, IsMetIn}

-- a number between two bounds, as far as there are such
abbrev pub between : Option ℤ → Option ℤ → ℤ
between (Some h) low = h
between Nothing (Some l) = pos 0 -ℤ l
between Nothing Nothing = pos 0

between_in : (i : Interval) → (IsCrossed i → ⊥) → IsInside i (between i.high i.low)
between_in i open' = record { high = high; low = λ l is. low l is i.high refl }
  where
    high : (b : ℤ) → i.high ≡ Some b → between i.high i.low ≤ℤ b
    high b is = rw is (omega (arith, ints))

    low : (l : ℤ) → i.low ≡ Some l → (o : Option ℤ) → i.high ≡ o → (pos 0 -ℤ between i.high i.low) ≤ℤ l
    low l is Nothing at = rw (at, is) (omega (arith, ints))
    low l is (Some h) at = rw at (by_lt_z (h +ℤ l) (pos 0)
        (λ (c : (h +ℤ l) <ℤ pos 0). absurd (open' (record { upper = h; lower = l; is_high = at; is_low = is; crossed = c })))
        (λ (c : pos 0 ≤ℤ (h +ℤ l)). omega (arith, ints)))

number-map : (f : Interval → ℤ) (box : List Interval) (k : ℕ) → k < length box → number k (map f box) ≡ f (interval_at box k)
number-map f [] k low = absurd (omega arith)
number-map f (i ∷ box) zero low = refl
number-map f (i ∷ box) (suc k) low = number-map f box k (omega arith)

-- a box whose bounds exclude each other in no column has a point
pub uncrossed_point : (box : List Interval) → ((k : ℕ) → k < length box → IsCrossed (interval_at box k) → ⊥) → HasPoint box
uncrossed_point box open' = (
  map (λ i. between i.high i.low) box,
  record {
    size = length-map box (λ (i : Interval). between i.high i.low);
    each = λ k low. rw (number-map (λ i. between i.high i.low) box k low) (between_in (interval_at box k) (open' k low));
  },
)

pub point_uncrossed : (box : List Interval) → HasPoint box → (k : ℕ) → k < length box → IsCrossed (interval_at box k) → ⊥
point_uncrossed box (point, within) k low x =
    let i : IsInside (interval_at box k) (number k point) = within.each k low in
    let h : number k point ≤ℤ x.upper = i.high x.upper x.is_high in
    let l : (pos 0 -ℤ number k point) ≤ℤ x.lower = i.low x.lower x.is_low in
    let c : (x.upper +ℤ x.lower) <ℤ pos 0 = x.crossed in
    omega (arith, ints)

opposite_times : (c x : ℤ) → (pos 0 -ℤ c) *ℤ x ≡ pos 0 -ℤ (c *ℤ x)
opposite_times c x =
    let none : (pos 0 -ℤ c) +ℤ c ≡ pos 0 = omega (arith, ints) in
    let e : ((pos 0 -ℤ c) *ℤ x) +ℤ (c *ℤ x) ≡ pos 0 = sym (add_mul (pos 0 -ℤ c) c x) ∙ ap (λ z. z *ℤ x) none ∙ zero-*ℤ x in
    omega (arith, ints)

pub dot-opposite : (cs xs : List ℤ) → dot (opposite cs) xs ≡ pos 0 -ℤ dot cs xs
dot-opposite [] xs = refl
dot-opposite (c ∷ cs) [] = refl
dot-opposite (c ∷ cs) (x ∷ xs) =
    let e = opposite_times c x in
    let r : dot (opposite cs) xs ≡ pos 0 -ℤ dot cs xs = dot-opposite cs xs in
    omega (arith, ints)

-- where the greatest value of the opposite is below the opposite of the bound, no point meets the row
pub peak_unmet : (box : List Interval) (r : Row) (top : Option ℤ) → IsPeak box (opposite r.coefficients) top
    → (z : ℤ) → top ≡ Some z → z <ℤ (pos 0 -ℤ r.bound) → IsMetIn box r → ⊥
peak_unmet box r top peak z is less (point, within, holds) =
    let most : dot (opposite r.coefficients) point ≤ℤ z = peak.most z is point within in
    let e = dot-opposite r.coefficients point in
    omega (arith, ints)

pub peak_met : (box : List Interval) (r : Row) (top : Option ℤ) → IsPeak box (opposite r.coefficients) top
    → ((z : ℤ) → top ≡ Some z → z <ℤ (pos 0 -ℤ r.bound) → ⊥) → IsMetIn box r
peak_met box r Nothing peak none =
    let (point, within, more) = peak.unbounded refl (pos 0 -ℤ r.bound) in
    let e = dot-opposite r.coefficients point in
    (point, within, omega (arith, ints))
peak_met box r (Some z) peak none =
    let (point, within, is) = peak.reached z refl in
    let e = dot-opposite r.coefficients point in
    let up : (pos 0 -ℤ r.bound) ≤ℤ z = by_lt_z z (pos 0 -ℤ r.bound) (λ (l : z <ℤ (pos 0 -ℤ r.bound)). absurd (none z refl l))
    (λ (l : (pos 0 -ℤ r.bound) ≤ℤ z). l) in
    (point, within, omega (arith, ints))

-- the interval of a column
pub interval_read : (f : Ends → Interval) (free : Interval) (ends : List Ends) (k : ℕ) (x : Ends) → slice_get ends k ≡ Some x
    → slice_index_or (map f ends) k free ≡ f x
interval_read f free [] k x got = absurd (none-some x got)
interval_read f free (y ∷ ends) zero x got = ap f (same_Some _ _ got)
interval_read f free (y ∷ ends) (suc k) x got = interval_read f free ends k x got

pub opposite_small : (cs : List ℤ) → All (λ c. unsigned_abs c ≤ 2 ^ 41) cs → All (λ c. unsigned_abs c ≤ 2 ^ 41) (opposite cs)
opposite_small [] h k d low = absurd (omega arith)
opposite_small (c ∷ cs) h zero d low = let z : unsigned_abs c ≤ 2 ^ 41 = h 0 d (omega arith) in turned c z
  where
    turned : (x : ℤ) → unsigned_abs x ≤ 2 ^ 41 → unsigned_abs (pos 0 -ℤ x) ≤ 2 ^ 41
    turned x z = omega (arith, ints)
opposite_small (c ∷ cs) h (suc k) d low = opposite_small cs (λ j e less. h (suc j) e (omega arith)) k d (omega arith)

-- one number more
pub opposite_more : (numbers list next : List ℤ) (i : ℕ) (x y : ℤ) → slice_get numbers i ≡ Some x → y ≡ pos 0 -ℤ x → list ≡ opposite (take i numbers)
    → next ≡ list ++ y ∷ [] → next ≡ opposite (take (i + 1) numbers)
opposite_more numbers list next i x y got is before after =
    let low : i < length numbers = slice_get_within numbers i x got in
    let read : get_or numbers i (pos 0) ≡ x = get_or_from_slice_get numbers i x (pos 0) got in
    after ∙ ap (λ (l : List ℤ). l ++ y ∷ []) before
    ∙ ap (λ (z : ℤ). opposite (take i numbers) ++ z ∷ []) (is ∙ ap (λ (z : ℤ). pos 0 -ℤ z) (sym read))
    ∙ sym (ap opposite (take_more numbers i (pos 0) low)
    ∙ map-append (λ (z : ℤ). pos 0 -ℤ z) (take i numbers) (get_or numbers i (pos 0) ∷ []))
