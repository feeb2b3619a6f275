-- Sums of columns over the box, with the weights that prove them.
use Rattle.std.proofs.Common.{◌≡◌, ◌≢◌, ℕ, ◌+◌, ◌*◌, ◌^◌, ◌<◌, ◌≤◌, ℤ, pos, negsuc, ◌+ℤ◌, ◌*ℤ◌, ◌<ℤ◌, List, length, get_or, All, arith, refl, ap, sym, ◌∙◌}
use Rattle.std.proofs.Common.{subst, ◌⊎◌, inl, inr}
use Rattle.std.proofs.lemmas.Int.{ints, unsigned_abs-mul}
use Rattle.std.proofs.{Math.IntN.*ℤ-zero, Math.Nat.mul-le-mul, lemmas.Bool.cases_lt, lemmas.List.Elements.All-weaker}
use Rattle.std.specs.Int.RustNames.{unsigned_abs}
use Rattle.rv_rows.specs.{declared.linear.Row.Row, declared.farkas.Weight.Weight, Rows.coefficient, Rows.row_at, Forms.number, Multipliers.weighted}
use Rattle.rv_rows.proofs.{RowLemmas.bound_within, IntLemmas.abs-add}
use Rattle.rv_boxes.specs.Boxed.{ArePremises, IsTowards, IsColumnWeight, IsSummed}
use Rattle.rv_boxes.specs.{declared.ends.End.End, declared.peaks.Peak.Peak, Ends.IsEndAt, Ends.AreEnds, Ends.end_at, Weighing.IsInserted}
use Rattle.rv_proofs.specs.Boxes.{IsUnitAt}
use Rattle.rv_boxes.proofs.WeightLemmas.{weighted-inserted, All-inserted, length-inserted, Rises-inserted}
use Rattle.rv_boxes.proofs.BoxLemmas.{closest, unit_once}
use Rattle.rv_terms.proofs.Sums.{zero_right}
use Rattle.rv_base.proofs.Numbers.{zero_add}

-- The premise at which a column has its end has 1 or -1 at it, so its row times the magnitude has the number.
pub record IsTurned (rows : List Row) (k : ℕ) (c : ℤ) (p : ℕ) : Type 0 where
  pub there : p < length rows
  pub sign : ℤ
  pub some : sign ≢ pos 0
  pub unit : IsUnitAt (row_at rows p) k sign
  pub turned : pos (unsigned_abs c) *ℤ sign ≡ c
  pub sided : ((pos 0 <ℤ c) × (sign ≡ pos 1)) ⊎ ((c <ℤ pos 0) × (sign ≡ negsuc 0))

pub turned_from : (rows : List Row) (k : ℕ) (c : ℤ) (p : ℕ) (e : End) → IsEndAt rows k e → IsTowards e c p → IsTurned rows k c p
turned_from rows k c p e h (inl (up, is)) =
    let end = closest rows (length rows) k (pos 1) e.high p h.high is in
    record { there = end.there; sign = pos 1; some = λ (q : pos 1 ≡ pos 0). omega (arith, ints); unit = end.unit; turned = same c up; sided = inl (up, refl) }
  where
    same : (c : ℤ) → pos 0 <ℤ c → pos (unsigned_abs c) *ℤ pos 1 ≡ c
    same c u = omega (arith, ints)
turned_from rows k c p e h (inr (down, is)) =
    let end = closest rows (length rows) k (negsuc 0) e.low p h.low is in
    record {
      there = end.there;
      sign = negsuc 0;
      some = λ (q : negsuc 0 ≡ pos 0). omega (arith, ints);
      unit = end.unit;
      turned = same c down;
      sided =
          inr (down, refl);
    }
  where
    same : (c : ℤ) → c <ℤ pos 0 → pos (unsigned_abs c) *ℤ negsuc 0 ≡ c
    same c u = omega (arith, ints)

module _ (rows : List Row) (width : ℕ) (pre : ArePremises width rows) (ends : List End) (are : AreEnds rows (length ends) ends) (numbers : List ℤ)
    (k : ℕ) (inside : k < length ends) (g : Peak) (sum : IsSummed rows ends numbers k g) where
  pub sum_skips : number k numbers ≡ pos 0 → IsSummed rows ends numbers (k + 1) g
  sum_skips z = record {
    below = λ m l. below m l (cases_lt m k);
    above = λ m l. sum.above m (omega arith);
    bound = sum.bound;
    room = let r = sum.room in omega arith;
    named = All-weaker (IsColumnWeight ends numbers k) (IsColumnWeight ends numbers (k + 1)) (λ w (j, l, by, t). (j, omega arith, by, t)) g.weights sum.named;
    rises = sum.rises;
    count = let r = sum.count in omega arith;
  }
    where
      below : (m : ℕ) → m < k + 1 → (m < k) ⊎ (k ≤ m) → weighted (coefficient m) rows g.weights ≡ number m numbers
      below m l (inl less) = sum.below m less
      below m l (inr more) = let e : m ≡ k = omega arith in rw e (sum.above k (omega arith) ∙ sym z)

  module _ (p : ℕ) (new : Peak) (towards : IsTowards (end_at ends k) (number k numbers) p)
      (small : unsigned_abs (number k numbers) ≤ 2 ^ 41)
      (bound_is : new.bound ≡ g.bound +ℤ (pos (unsigned_abs (number k numbers)) *ℤ (row_at rows p).bound))
      (inserted : IsInserted g.weights (record { premise = p; by = pos (unsigned_abs (number k numbers)) }) new.weights) where
    w : Weight
    w = record { premise = p; by = pos (unsigned_abs (number k numbers)) }

    turned : IsTurned rows k (number k numbers) p
    turned = turned_from rows k (number k numbers) p (end_at ends k) (are.each k inside) towards

    fresh : All (λ u. u.premise ≢ p) g.weights
    fresh i d l q =
        let (j, less, by, t) = sum.named i d l in
        let other = turned_from rows j (number j numbers) (get_or g.weights i d).premise (end_at ends j) (are.each j (omega arith)) t in
        let u : IsUnitAt (row_at rows p) j other.sign = subst (λ (n : ℕ). IsUnitAt (row_at rows n) j other.sign) q other.unit in
        let e : j ≡ k = unit_once (row_at rows p) j k other.sign turned.sign other.some u turned.unit in
        omega arith

    pub sum_adds : IsSummed rows ends numbers (k + 1) new
    unfolding w
    sum_adds = record {
      below = λ m l. more m ∙ below m l (cases_lt m k);
      above = λ m l. more m ∙ above m l;
      bound = bound_is ∙ ap (λ z. z +ℤ (pos (unsigned_abs (number k numbers)) *ℤ (row_at rows p).bound)) sum.bound
          ∙ swap (weighted (λ r. r.bound) rows g.weights) (pos (unsigned_abs (number k numbers)) *ℤ (row_at rows p).bound)
          ∙ sym (weighted-inserted g.weights w new.weights inserted (λ r. r.bound) rows);
      room = room;
      named = All-inserted g.weights w new.weights inserted (IsColumnWeight ends numbers (k + 1))
          (All-weaker (IsColumnWeight ends numbers k) (IsColumnWeight ends numbers (k + 1)) (λ u (j, l, by, t). (j, omega arith, by, t)) g.weights sum.named)
          (k, omega arith, refl, towards);
      rises = Rises-inserted g.weights w new.weights inserted sum.rises fresh;
      count = let r = sum.count in omega (arith, length-inserted g.weights w new.weights inserted);
    }
      where
        swap : (a b : ℤ) → a +ℤ b ≡ b +ℤ a
        swap a b = omega (arith, ints)

        more : (m : ℕ) → weighted (coefficient m) rows new.weights ≡ (pos (unsigned_abs (number k numbers)) *ℤ coefficient m (row_at rows p)) +ℤ
            weighted (coefficient m) rows g.weights
        more m = weighted-inserted g.weights w new.weights inserted (coefficient m) rows

        other : (m : ℕ) → m ≢ k → pos (unsigned_abs (number k numbers)) *ℤ coefficient m (row_at rows p) ≡ pos 0
        other m n = let u = turned.unit in ap (λ z. pos (unsigned_abs (number k numbers)) *ℤ z) (u.others m n) ∙ *ℤ-zero (pos (unsigned_abs (number k numbers)))

        below : (m : ℕ) → m < k + 1 → (m < k) ⊎ (k ≤ m) → (pos (unsigned_abs (number k numbers)) *ℤ coefficient m (row_at rows p)) +ℤ weighted
            (coefficient m) rows g.weights ≡ number m numbers
        below m l (inl less) = rw (other m (λ (q : m ≡ k). omega arith), sum.below m less) (zero_add (number m numbers))
        below m l (inr more) =
            let e : m ≡ k = omega arith in
            let u = turned.unit in
            let t = turned.turned in
            rw (e, sum.above k (omega arith), u.here, t) (zero_right (number k numbers))

        above : (m : ℕ) → k + 1 ≤ m → (pos (unsigned_abs (number k numbers)) *ℤ coefficient m (row_at rows p)) +ℤ weighted (coefficient m) rows
            g.weights ≡ pos 0
        above m l = rw (other m (λ (q : m ≡ k). omega arith), sum.above m (omega arith)) refl

        room : unsigned_abs new.bound ≤ (k + 1) * 2 ^ 101
        room =
            let a = abs-add g.bound (pos (unsigned_abs (number k numbers)) *ℤ (row_at rows p).bound) in
            let b = unsigned_abs-mul (pos (unsigned_abs (number k numbers))) (row_at rows p).bound in
            let c = bound_within (2 ^ 60) rows pre.within p in
            let d = mul-le-mul small c in
            let r = sum.room in
            let s : unsigned_abs (pos (unsigned_abs (number k numbers))) ≡ unsigned_abs (number k numbers) = omega (arith, ints) in
            let b2 : unsigned_abs (pos (unsigned_abs (number k numbers)) *ℤ (row_at rows p).bound) ≡ unsigned_abs (number k numbers) * unsigned_abs
            (row_at rows p).bound = b ∙ ap (λ n. n * unsigned_abs (row_at rows p).bound) s in
            let e = ap unsigned_abs bound_is in
            omega arith
