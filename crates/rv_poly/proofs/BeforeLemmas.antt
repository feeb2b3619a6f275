-- The points before updates.
use Rattle.std.proofs.Common.{◌≡◌, ◌⊎◌, ◌↔◌, ℕ, ◌+◌, ◌-◌, ◌≤◌, ◌<◌, ◌^◌, ℤ, pos, ◌+ℤ◌, ◌-ℤ◌, ◌*ℤ◌, ◌≤ℤ◌, List, [], ◌∷◌, ◌++◌, length, map, get_or, replicate}
use Rattle.std.proofs.Common.{All, Option, Some, None, arith, refl, ap, sym, ◌∙◌, subst, inl, inr}
use Rattle.std.proofs.{Math.Seq.take-length, lemmas.Int.ints, lemmas.Bool.cases_lt}
use Rattle.std.proofs.lemmas.List.{length-replicate, get_or_append_left, get_or-append_right, get_or-replicate, get_or_past}
use Rattle.std.proofs.lemmas.List.Elements.{All-nil, All-append}
use Rattle.std.specs.{Prelude.IfSome, Prelude.IfNone, Int.RustNames.unsigned_abs}
use Rattle.rv_rows.specs.{declared.linear.Row.Row, declared.linear.Form.Form, Rows.dot, Rows.Holds, Rows.coefficient, Tight.Fits}
use Rattle.rv_rows.specs.Forms.{number, values, CanSubstitute}
use Rattle.rv_base.proofs.Lists.{all_left as All-left, all_right as All-right}
use Rattle.rv_poly.specs.{Points.HasPoint, Polys.IsPoly, Polys.AreBoth, Images.AreUpdates, Images.AreMoves, Images.IsNarrow, Carried.AreCarried}
use Rattle.rv_poly.specs.Befores.{IsBack, IsEarlier, StaysBefore, CanGoBack, IsLevel, IsWithoutColumns, IsBefore, IsBackMove}
use Rattle.rv_poly.proofs.ImageLemmas.{can-substitute, dot-agree, dot-comm}
use Rattle.rv_poly.proofs.MovedLemmas.{dot-values}
use Rattle.rv_poly.proofs.CarriedLemmas.{carried-all, carried-back, level-forth, level-back, level-narrow, narrower}

-- ---- One row.
-- a row moved by the negatives of the constants
pub earlier-moved : (updates : List Form) (r : Row) (bound : ℤ) → AreMoves updates → length r.coefficients ≡ length updates
    → bound ≡ r.bound -ℤ dot r.coefficients (map (λ f. f.constant) updates) → IsEarlier updates r (record { coefficients = r.coefficients; bound = bound })
earlier-moved updates r bound moves size e = record {
  back = λ point. let sum = dot-values updates moves point r.coefficients (omega arith) in (
    forth (dot r.coefficients (values updates point)) (dot r.coefficients point) (dot r.coefficients (map (λ f. f.constant) updates)) r.bound bound sum e,
    back (dot r.coefficients (values updates point)) (dot r.coefficients point) (dot r.coefficients (map (λ f. f.constant) updates)) r.bound bound sum e,
  );
  narrow = λ m k l. get_or_past r.coefficients k (pos 0) (omega arith);
}
  where
    forth : (n w t b q : ℤ) → n ≡ w +ℤ t → q ≡ b -ℤ t → w ≤ℤ q → n ≤ℤ b
    forth n w t b q s e h = omega (arith, ints)

    back : (n w t b q : ℤ) → n ≡ w +ℤ t → q ≡ b -ℤ t → n ≤ℤ b → w ≤ℤ q
    back n w t b q s e h = omega (arith, ints)

-- the row with the opposite bound is moved forth, and the bound turned again
pub earlier-turned : (updates : List Form) (row copy : Row) (turned sum bound : ℤ) → copy ≡ row → AreMoves updates
    → length row.coefficients ≡ length updates → turned ≡ pos 0 -ℤ copy.bound
    → sum ≡ turned +ℤ dot copy.coefficients (map (λ f. f.constant) updates) → bound ≡ pos 0 -ℤ sum
    → IsEarlier updates row (record { coefficients = copy.coefficients; bound = bound })
earlier-turned updates row copy turned sum bound same moves size e f g =
    subst (λ (r : Row). IsEarlier updates r (record { coefficients = copy.coefficients; bound = bound })) same
    (earlier-moved updates copy bound moves (ap (λ (r : Row). length r.coefficients) same ∙ size)
    (again copy.bound turned (dot copy.coefficients (map (λ f. f.constant) updates)) sum bound e f g))
  where
    again : (b u t z q : ℤ) → u ≡ pos 0 -ℤ b → z ≡ u +ℤ t → q ≡ pos 0 -ℤ z → q ≡ b -ℤ t
    again b u t z q e f g = omega (arith, ints)

pub turned-fits : (updates : List Form) (row copy : Row) (turned sum bound : ℤ) → copy ≡ row → Fits row
    → sum ≡ turned +ℤ dot copy.coefficients (map (λ f. f.constant) updates)
    → unsigned_abs (turned +ℤ dot copy.coefficients (map (λ f. f.constant) updates)) ≤ 2 ^ 60 → bound ≡ pos 0 -ℤ sum
    → Fits (record { coefficients = copy.coefficients; bound = bound })
turned-fits updates row copy turned sum bound same fits f small g =
    let own : Fits copy = subst Fits (sym same) fits in
    record { coefficients = own.coefficients; bound = within (turned +ℤ dot copy.coefficients (map (λ f. f.constant) updates)) sum bound f small g }
  where
    within : (y z q : ℤ) → z ≡ y → unsigned_abs y ≤ 2 ^ 60 → q ≡ pos 0 -ℤ z → unsigned_abs q ≤ 2 ^ 60
    within y z q f h g = omega (arith, ints)

-- a row of the limits can be replaced column by column
pub can-put : (updates : List Form) (r : Row) → AreUpdates updates → length r.coefficients ≡ length updates → Fits r → CanSubstitute r updates
can-put updates r limits size fits =
    let can = can-substitute updates r.coefficients limits size fits.coefficients in
    record {
      columns = can.columns;
      widths = can.widths;
      sides = can.sides;
      constants = can.constants;
      bound = let b = fits.bound in omega arith;
    }

pub back-tight : (updates : List Form) (r put tight : Row) → ((point : List ℤ) → Holds put point ↔ Holds r (values updates point))
    → ((point : List ℤ) → Holds tight point ↔ Holds put point) → IsBack updates r tight
back-tight updates r put tight h k point = (λ x. (h point).0 ((k point).0 x), λ x. (k point).1 ((h point).1 x))

pub missing-moved : (updates : List Form) (r : Row) (o : Option Row) → IfNone o (¬ StaysBefore updates r) → IfNone o (¬ CanGoBack updates r)
missing-moved updates r None h = λ can. h can.stays
missing-moved updates r (Some s) h = h

pub earlier-put : (updates : List Form) (r : Row) (o : Option Row) → ¬ AreMoves updates → IfSome o (IsBack updates r) → IfSome o (IsEarlier updates r)
earlier-put updates r None none h = h
earlier-put updates r (Some s) none h = record { back = h; narrow = λ moves. absurd (none moves) }

pub missing-put : (updates : List Form) (r : Row) (o : Option Row) → ¬ AreMoves updates → IfNone o (¬ CanGoBack updates r)
missing-put updates r None none = λ can. none can.moves
missing-put updates r (Some s) none = tt

-- ---- Columns.
pub without-none : (from : ℕ) (rows : List Row) → IsPoly rows → length rows ≤ 1024 → IsWithoutColumns from rows rows
without-none from rows poly few = record { poly = poly; few = few; points = λ point h. h; same = λ h. refl }

-- a column that some row reads
pub without-one : (column : ℕ) (rows new : List Row) → IsPoly new → length new ≤ 1024 → ((point : List ℤ) → HasPoint rows point → HasPoint new point)
    → ¬ (All (λ r. coefficient column r ≡ pos 0) rows) → IsWithoutColumns column rows new
without-one column rows new poly few points read = record {
  poly = poly;
  few = few;
  points = points;
  same = λ narrow. absurd (read (λ i d l. narrow i d l column (omega arith)));
}

pub without-more : (from column : ℕ) (rows now new : List Row) → from ≤ column → IsWithoutColumns from rows now → IsWithoutColumns column now new
    → IsWithoutColumns from rows new
without-more from column rows now new l a b = record {
  poly = b.poly;
  few = b.few;
  points = λ point h. b.points point (a.points point h);
  same = λ narrow.
      let e = a.same narrow in
      let later : All (IsNarrow column) now = subst (All (IsNarrow column)) (sym e) (λ i d m. narrower from column (get_or rows i d) l (narrow i d m)) in
      b.same later ∙ e;
}

-- ---- Sums of points with further numbers.
dot-front : (cs xs ys : List ℤ) → length cs ≤ length xs → dot cs (xs ++ ys) ≡ dot cs xs
dot-front [] xs ys l = refl
dot-front (c ∷ cs) [] ys l = absurd (omega arith)
dot-front (c ∷ cs) (x ∷ xs) ys l = ap (λ z. (c *ℤ x) +ℤ z) (dot-front cs xs ys (omega arith))

number-zeros : (xs : List ℤ) (n k : ℕ) → number k (xs ++ replicate n (pos 0)) ≡ number k xs
number-zeros xs n k = go (cases_lt k (length xs))
  where
    zeros : (i : ℕ) → (i < n) ⊎ (n ≤ i) → number i (replicate n (pos 0)) ≡ pos 0
    zeros i (inl l) = get_or-replicate n i (pos 0) (pos 0) l
    zeros i (inr l) = get_or_past (replicate n (pos 0)) i (pos 0) (let e = length-replicate n (pos 0) in omega arith)

    go : (k < length xs) ⊎ (length xs ≤ k) → number k (xs ++ replicate n (pos 0)) ≡ number k xs
    go (inl l) = get_or_append_left xs (replicate n (pos 0)) (pos 0) k l
    go (inr l) = get_or-append_right xs (replicate n (pos 0)) (length xs) k (pos 0) refl l ∙ zeros (k - length xs) (cases_lt (k - length xs) n)
        ∙ sym (get_or_past xs k (pos 0) l)

with-zeros : (rows : List Row) (point : List ℤ) (n : ℕ) → HasPoint rows point → HasPoint rows (point ++ replicate n (pos 0))
with-zeros rows point n h i d l =
    let cs = (get_or rows i d).coefficients in
    let e : dot cs (point ++ replicate n (pos 0)) ≡ dot cs point = dot-comm cs (point ++ replicate n (pos 0))
    ∙ dot-agree cs (point ++ replicate n (pos 0)) point (λ k m. number-zeros point n k) ∙ dot-comm point cs in
    rw e (h i d l)

-- ---- The inputs are eliminated.
module _ (rows level dropped new : List Row) (width wide : ℕ) (less : width ≤ wide)
    (first : AreCarried (IsNarrow wide) (IsLevel wide) rows (length rows) level) (middle : IsWithoutColumns width level dropped)
    (last : AreCarried (IsNarrow width) (IsLevel width) dropped (length dropped) new) where
  pub inputs-contains : (point inputs : List ℤ) → length point ≡ width → HasPoint rows (point ++ inputs) → HasPoint new point
  inputs-contains point inputs size h =
      let Q : Row → Type 0 = λ r. Holds r (point ++ inputs) in
      let at_level = carried-all (IsNarrow wide) (IsLevel wide) Q Q rows level first (λ r s m. level-forth wide r s m (point ++ inputs)) h in
      let at_dropped = middle.points (point ++ inputs) at_level in
      let at_new = carried-all (IsNarrow width) (IsLevel width) Q Q dropped new last (λ r s m. level-forth width r s m (point ++ inputs)) at_dropped in
      λ i d l.
      let e = (last.from i d l).2.size in
      rw (dot-front (get_or new i d).coefficients point inputs (omega arith)) at (at_new i d l)

  pub inputs-exact : All (IsNarrow width) rows → (point : List ℤ) → HasPoint new point → HasPoint rows point
  inputs-exact narrow point h =
      let Q : Row → Type 0 = λ r. Holds r point in
      let narrow_level = carried-all (IsNarrow wide) (IsLevel wide) (IsNarrow width) (IsNarrow width) rows level first
      (λ r s m. level-narrow wide r s m width) narrow in
      let e = middle.same narrow_level in
      let narrow_dropped : All (IsNarrow width) dropped = subst (All (IsNarrow width)) (sym e) narrow_level in
      let at_dropped = carried-back (IsNarrow width) (IsLevel width) Q Q dropped new last narrow_dropped (λ r s m. level-back width r s m point) h in
      let at_level : HasPoint level point = subst (λ (rs : List Row). HasPoint rs point) e at_dropped in
      carried-back (IsNarrow wide) (IsLevel wide) Q Q rows level first (λ i d l. narrower width wide (get_or rows i d) less (narrow i d l))
      (λ r s m. level-back wide r s m point) at_level

-- ---- Two lists that are kept.
pub kept-fits : (a b both : List Row) → AreBoth a b both → All Fits both
kept-fits a b both m = m.second.fits (m.first.fits (All-nil Fits))

pub kept-few : (a b both : List Row) → AreBoth a b both → length both ≤ 1024
kept-few a b both m = m.second.most (m.first.most (omega arith))

kept-whole : (a b both : List Row) → AreBoth a b both → All Fits a → All Fits b → length a + length b ≤ 1024 → both ≡ a ++ b
kept-whole a b both m f g room =
    let x = m.first.count in
    let one_is : m.one ≡ a = m.first.whole f (omega arith) ∙ take-length a in
    m.second.whole g (omega arith) ∙ ap (λ l. m.one ++ l) (take-length b) ∙ ap (λ l. l ++ b) one_is

-- ---- The call.
module _ (own rows earlier both new : List Row) (updates : List Form)
    (made : AreCarried (CanGoBack updates) (IsEarlier updates) own (length own) earlier) (kept : AreBoth earlier rows both) where
  pub before-contains : ((point inputs : List ℤ) → length point ≡ length updates → HasPoint both (point ++ inputs) → HasPoint new point)
      → (inputs : ℕ) (point : List ℤ) → IsBefore own rows updates inputs point → HasPoint new point
  before-contains contains inputs point b =
      let P : Row → Type 0 = λ r. Holds r (values updates (point ++ b.further)) in
      let Q : Row → Type 0 = λ r. Holds r (point ++ b.further) in
      let early = carried-all (CanGoBack updates) (IsEarlier updates) P Q own earlier made (λ r s m. (m.back (point ++ b.further)).1) b.after in
      contains point b.further b.size
      (kept.second.contains (point ++ b.further) (kept.first.contains (point ++ b.further) (All-nil Q) early) b.meets)

  pub before-exact : (All (IsNarrow (length updates)) both → (point : List ℤ) → HasPoint new point → HasPoint both point)
      → IsBackMove own rows updates → (inputs : ℕ) (point : List ℤ) → length point ≡ length updates → HasPoint new point
      → IsBefore own rows updates inputs point
  before-exact exact m inputs point size h =
      let few = made.few in
      let room = m.few in
      let whole = kept-whole earlier rows both kept made.fits m.fits (omega arith) in
      let narrow_earlier : All (IsNarrow (length updates)) earlier = λ i d l. (made.from i d l).2.narrow m.moves in
      let narrow : All (IsNarrow (length updates)) both = subst (All (IsNarrow (length updates))) (sym whole)
      (All-append (IsNarrow (length updates)) earlier rows narrow_earlier m.narrow) in
      let at_both : HasPoint (earlier ++ rows) point = subst (λ (rs : List Row). HasPoint rs point) whole (exact narrow point h) in
      let wide : HasPoint (earlier ++ rows) (point ++ replicate inputs (pos 0)) = with-zeros (earlier ++ rows) point inputs at_both in
      let P : Row → Type 0 = λ r. Holds r (values updates (point ++ replicate inputs (pos 0))) in
      let Q : Row → Type 0 = λ r. Holds r (point ++ replicate inputs (pos 0)) in
      record {
        size = size;
        further = replicate inputs (pos 0);
        count = length-replicate inputs (pos 0);
        meets = All-right Q earlier rows wide;
        after = carried-back (CanGoBack updates) (IsEarlier updates) P Q own earlier made (λ i d l. record { moves = m.moves; stays = m.stays i d l })
            (λ r s e. (e.back (point ++ replicate inputs (pos 0))).0) (All-left Q earlier rows wide);
      }
