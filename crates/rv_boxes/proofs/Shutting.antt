-- Refutations that the ends of a box give.
use Rattle.std.proofs.Common.{◌≡◌, ◌≢◌, ℕ, ◌^◌, ◌<◌, ◌≤◌, ℤ, pos, negsuc, ◌+ℤ◌, ◌-ℤ◌, ◌*ℤ◌, ◌≤ℤ◌, ◌<ℤ◌, List, [], length, get_or, All, Some, arith, refl, ap}
use Rattle.std.proofs.Common.{◌∙◌, subst, ◌⊎◌, inl, inr}
use Rattle.std.proofs.{lemmas.Int.ints, lemmas.Bool.cases_eq, lemmas.List.Elements.All-nil}
use Rattle.rv_rows.specs.Rows.{dot, Holds, coefficient, row_at}
use Rattle.rv_rows.specs.{declared.linear.Row.Row, declared.farkas.Weight.Weight, declared.farkas.Multipliers.Multipliers, Forms.number, Multipliers.weighted}
use Rattle.rv_rows.proofs.TightLemmas.{dot-scale}
use Rattle.rv_proofs.specs.{Boxes.HasOneColumn, Boxes.IsUnitAt, Ranges.IsRecord}
use Rattle.rv_boxes.specs.Boxed.{IsBoxed, HasBoxed, ArePremises, IsGreatest, IsUnbounded, IsVoid, IsRefutation}
use Rattle.rv_boxes.specs.{declared.ends.End.End, declared.peaks.Peak.Peak, Ends.AreEnds, Ends.end_at, Weighing.Rises, Weighing.IsInserted}
use Rattle.rv_boxes.proofs.WeightLemmas.{weighted-inserted, All-inserted, length-inserted, Rises-inserted, rising_from}
use Rattle.rv_boxes.proofs.BoxLemmas.{closest, unit_has_one, crossed_none}

-- a row with one column says something
one_says : (r : Row) → HasOneColumn r → ¬ IsVoid r
one_says r (k, ne, only) v = ne (v.zeros k)

-- the ranges of a document
abbrev pub IsRanged : ℕ → Weight → Type 0
IsRanged n w = (w.premise < n) × ((pos 1 ≤ℤ w.by) × (w.by ≤ℤ pos (2 ^ 41)))

pub record_from : (n : ℕ) (m : Multipliers) → m.divisor ≡ pos 1 → length m.weights ≤ 256 → All (IsRanged n) m.weights → Rises m.weights → IsRecord n m
record_from n m d l h r = record {
  positive = rw d (omega (arith, ints));
  divisor = rw d (omega (arith, ints));
  few = l;
  there = λ k e i. (h k e i).0;
  weighted = λ k e i. (h k e i).1;
  rising = rising_from m.weights r;
}

module _ (width : ℕ) (rows : List Row) (p : ℕ) (numbers : List ℤ)
    (negated : (k : ℕ) → number k numbers ≡ negsuc 0 *ℤ number k (row_at rows p).coefficients) where
  turned : (point : List ℤ) → dot numbers point ≡ negsuc 0 *ℤ dot (row_at rows p).coefficients point
  turned point = dot-scale point (negsuc 0) numbers (row_at rows p).coefficients negated

  pub free_holds : IsUnbounded width rows numbers → (point : List ℤ) × IsBoxed width rows point × Holds (row_at rows p) point
  free_holds h =
      let (point, b, l) = h (pos 0 -ℤ (row_at rows p).bound) in
      (point, b, less (dot numbers point) (dot (row_at rows p).coefficients point) (row_at rows p).bound (turned point) l)
    where
      less : (n d b : ℤ) → n ≡ negsuc 0 *ℤ d → (pos 0 -ℤ b) ≤ℤ n → d ≤ℤ b
      less n d b e h = omega (arith, ints)

  module _ (g : Peak) (is : IsGreatest width rows numbers g) where
    pub high_holds : pos 0 ≤ℤ ((row_at rows p).bound +ℤ g.bound) → (point : List ℤ) × IsBoxed width rows point × Holds (row_at rows p) point
    high_holds h =
        let (point, b, e) = is.reached in
        (point, b, less (dot numbers point) (dot (row_at rows p).coefficients point) (row_at rows p).bound g.bound (turned point) e h)
      where
        less : (n d b g : ℤ) → n ≡ negsuc 0 *ℤ d → n ≡ g → pos 0 ≤ℤ (b +ℤ g) → d ≤ℤ b
        less n d b g e f h = omega (arith, ints)

    module _ (low : ((row_at rows p).bound +ℤ g.bound) <ℤ pos 0) where
      pub low_fails : (point : List ℤ) → IsBoxed width rows point → ¬ Holds (row_at rows p) point
      low_fails point b h = more (dot numbers point) (dot (row_at rows p).coefficients point) (row_at rows p).bound g.bound (turned point)
          (is.most point b) h low
        where
          more : (n d b g : ℤ) → n ≡ negsuc 0 *ℤ d → n ≤ℤ g → d ≤ℤ b → (b +ℤ g) <ℤ pos 0 → ⊥
          more n d b g e f h l = omega (arith, ints)

      not_one : p < length rows → ¬ HasOneColumn (row_at rows p)
      not_one l one = let (point, b, e) = is.reached in low_fails point b (b.holds p l one)

      not_void : ¬ IsVoid (row_at rows p)
      not_void v =
          let (point, b, e) = is.reached in
          let z : dot (row_at rows p).coefficients point ≡ pos 0 = dot-scale point (pos 0) (row_at rows p).coefficients [] (λ k. v.zeros k ∙ none k)
          ∙ nothing (dot [] point) in
          low_fails point b (rw z v.bound)
        where
          none : (k : ℕ) → pos 0 ≡ pos 0 *ℤ number k []
          none k = omega (arith, ints)

          nothing : (y : ℤ) → pos 0 *ℤ y ≡ pos 0
          nothing y = omega (arith, ints)

      pub above_refutes : (ws : List Weight) → p < length rows → length numbers < 256 → IsInserted g.weights (record { premise = p; by = pos 1 }) ws
          → IsRefutation rows (record { divisor = pos 1; weights = ws })
      above_refutes ws l few h = record {
        refutes = record {
          divisor = refl;
          none_negative = λ k d i. let r = ranged k d i in let a = r.1.0 in omega (arith, ints);
          sides = λ m. weighted-inserted g.weights w ws h (coefficient m) rows ∙ ap (λ z. (pos 1 *ℤ coefficient m (row_at rows p)) +ℤ z) (is.sides m
              ∙ negated m) ∙ cancel (coefficient m (row_at rows p));
          bounds = below (weighted (λ r. r.bound) rows ws) (row_at rows p).bound (weighted (λ r. r.bound) rows g.weights) g.bound
              (weighted-inserted g.weights w ws h (λ r. r.bound) rows) is.bound low;
        };
        record_of = record_from (length rows) (record { divisor = pos 1; weights = ws }) refl
            (let c = is.count in omega (arith, length-inserted g.weights w ws h)) ranged
            (Rises-inserted g.weights w ws h is.rises (λ k d i e. not_one l (subst (λ (n : ℕ). HasOneColumn (row_at rows n)) e (is.units k d i).1)));
        useful = All-inserted g.weights w ws h (λ u. ¬ IsVoid (row_at rows u.premise))
            (λ k d i. one_says (row_at rows (get_or g.weights k d).premise) (is.units k d i).1) not_void;
      }
        where
          w : Weight
          w = record { premise = p; by = pos 1 }

          cancel : (c : ℤ) → (pos 1 *ℤ c) +ℤ (negsuc 0 *ℤ c) ≡ pos 0
          cancel c = omega (arith, ints)

          below : (s b y g : ℤ) → s ≡ (pos 1 *ℤ b) +ℤ y → y ≡ g → (b +ℤ g) <ℤ pos 0 → s <ℤ pos 0
          below s b y g e f h = omega (arith, ints)

          ranged : All (IsRanged (length rows)) ws
          ranged = All-inserted g.weights w ws h (IsRanged (length rows)) (λ k d i. ((is.units k d i).0, is.weights k d i))
              (l, (omega (arith, ints), omega (arith, ints)))

module _ (rows : List Row) (width : ℕ) (pre : ArePremises width rows) (ends : List End) (are : AreEnds rows width ends) (k : ℕ) (inside : k < width)
    (low high : ℕ) (is_low : (end_at ends k).low ≡ Some low) (is_high : (end_at ends k).high ≡ Some high)
    (crossed : ((row_at rows low).bound +ℤ (row_at rows high).bound) <ℤ pos 0) where
  pub ends_differ : low ≢ high
  ends_differ e =
      let a = closest rows (length rows) k (negsuc 0) (end_at ends k).low low (are.each k inside).low is_low in
      let b = closest rows (length rows) k (pos 1) (end_at ends k).high high (are.each k inside).high is_high in
      let u = a.unit in
      let v = b.unit in
      let x : coefficient k (row_at rows low) ≡ negsuc 0 = u.here in
      let y : coefficient k (row_at rows high) ≡ pos 1 = v.here in
      let z : coefficient k (row_at rows low) ≡ coefficient k (row_at rows high) = ap (λ n. coefficient k (row_at rows n)) e in
      omega (arith, ints)

  pub ends_shut : ¬ HasBoxed width rows
  ends_shut = crossed_none width rows pre ends are k inside (record { low = low; high = high; is_low = is_low; is_high = is_high; crossed = crossed })

  pub ends_refute : (m : Multipliers) (mid : List Weight) → m.divisor ≡ pos 1
      → IsInserted [] (record { premise = low; by = pos 1 }) mid → IsInserted mid (record { premise = high; by = pos 1 }) m.weights → IsRefutation rows m
  ends_refute m mid d h i =
      let a = closest rows (length rows) k (negsuc 0) (end_at ends k).low low (are.each k inside).low is_low in
      let b = closest rows (length rows) k (pos 1) (end_at ends k).high high (are.each k inside).high is_high in
      let nothing : All (IsRanged (length rows)) [] = All-nil (IsRanged (length rows)) in
      let ranged : All (IsRanged (length rows)) m.weights = All-inserted mid v m.weights i (IsRanged (length rows))
      (All-inserted [] u mid h (IsRanged (length rows)) nothing (a.there, (omega (arith, ints), omega (arith, ints))))
      (b.there, (omega (arith, ints), omega (arith, ints))) in
      record {
        refutes = record {
          divisor = d;
          none_negative = λ j e l. let r = ranged j e l in let y = r.1.0 in omega (arith, ints);
          sides = λ n. both (coefficient n) ∙ sides a.unit b.unit n (cases_eq n k);
          bounds = below (weighted (λ r. r.bound) rows m.weights) (row_at rows low).bound (row_at rows high).bound (both (λ r. r.bound)) crossed;
        };
        record_of = record_from (length rows) m d (omega (arith, length-inserted [] u mid h, length-inserted mid v m.weights i)) ranged
            (Rises-inserted mid v m.weights i (Rises-inserted [] u mid h tt (All-nil (λ x. x.premise ≢ low)))
            (All-inserted [] u mid h (λ x. x.premise ≢ high) (All-nil (λ x. x.premise ≢ high)) ends_differ));
        useful = All-inserted mid v m.weights i (λ x. ¬ IsVoid (row_at rows x.premise))
            (All-inserted [] u mid h (λ x. ¬ IsVoid (row_at rows x.premise)) (All-nil (λ x. ¬ IsVoid (row_at rows x.premise)))
            (one_says (row_at rows low) (unit_has_one (row_at rows low) k (negsuc 0) (λ (q : negsuc 0 ≡ pos 0). omega (arith, ints)) a.unit)))
            (one_says (row_at rows high) (unit_has_one (row_at rows high) k (pos 1) (λ (q : pos 1 ≡ pos 0). omega (arith, ints)) b.unit));
      }
    where
      u : Weight
      u = record { premise = low; by = pos 1 }

      v : Weight
      v = record { premise = high; by = pos 1 }

      both : (f : Row → ℤ) → weighted f rows m.weights ≡ (pos 1 *ℤ f (row_at rows high)) +ℤ ((pos 1 *ℤ f (row_at rows low)) +ℤ pos 0)
      both f = weighted-inserted mid v m.weights i f rows ∙ ap (λ z. (pos 1 *ℤ f (row_at rows high)) +ℤ z) (weighted-inserted [] u mid h f rows)

      sides : IsUnitAt (row_at rows low) k (negsuc 0) → IsUnitAt (row_at rows high) k (pos 1) → (n : ℕ) → (n ≡ k) ⊎ (n ≢ k)
          → (pos 1 *ℤ coefficient n (row_at rows high)) +ℤ ((pos 1 *ℤ coefficient n (row_at rows low)) +ℤ pos 0) ≡ pos 0
      sides a b n (inl e) = rw (e, a.here, b.here) refl
      sides a b n (inr ne) = rw (a.others n ne, b.others n ne) refl

      below : (s l h : ℤ) → s ≡ (pos 1 *ℤ h) +ℤ ((pos 1 *ℤ l) +ℤ pos 0) → (l +ℤ h) <ℤ pos 0 → s <ℤ pos 0
      below s l h e c = omega (arith, ints)
