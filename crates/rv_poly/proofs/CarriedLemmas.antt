-- Rows that are taken over into another list.
use Rattle.std.proofs.Common.{◌≡◌, ◌⊎◌, ℕ, ◌+◌, ◌≤◌, ◌<◌, ℤ, pos, ◌≤ℤ◌, List, [], ◌∷◌, ◌++◌, length, get_or, All, arith, ap, sym, ◌∙◌, subst, inl, inr}
use Rattle.std.proofs.{lemmas.Int.ints, lemmas.Bool.cases_lt}
use Rattle.std.proofs.lemmas.List.{length_push, get_or_default, get_or_past}
use Rattle.std.proofs.lemmas.List.Elements.{All-nil, All-push, All-contains, Contains-get_or, Contains-append_left, Contains-push}
use Rattle.std.specs.List.{Contains}
use Rattle.rv_rows.specs.{declared.linear.Row.Row, Rows.dot, Rows.Holds, Rows.coefficient, Tight.Fits}
use Rattle.rv_poly.specs.{Images.IsNarrow, Images.IsCut, Polys.IsPoly, Befores.IsLevel, Carried.IsCarriedAdded, Carried.AreCarried}
use Rattle.rv_poly.proofs.{ImageLemmas.dot-agree, ListLemmas.one_width}

pub carried-none : (can : Row → Type 0) (like : Row → Row → Type 0) (rows : List Row) → AreCarried can like rows 0 []
carried-none can like rows = record {
  few = omega arith;
  fits = All-nil Fits;
  from = All-nil (λ s. (r : Row) × Contains rows r × like r s);
  kept = λ i e j k h. absurd (omega arith);
}

-- one more row
pub carried-more : (can : Row → Type 0) (like : Row → Row → Type 0) (rows : List Row) (n : ℕ) (d : Row) (old new : List Row) → n < length rows
    → AreCarried can like rows n old → IsCarriedAdded can like (get_or rows n d) old new → AreCarried can like rows (n + 1) new
carried-more can like rows n d old new l m (inl x) = rw x.new_is (record {
  few = let a = m.few in let b = length_push old x.row in omega arith;
  fits = All-push Fits old x.row m.fits x.fits;
  from = All-push (λ s. (r : Row) × Contains rows r × like r s) old x.row m.from (get_or rows n d, Contains-get_or rows n d l, x.carried);
  kept = λ i e j k h. go i e k h (cases_lt i n) j;
})
  where
    go : (i : ℕ) (e : Row) → i < length rows → can (get_or rows i e) → (i < n) ⊎ (n ≤ i) → i < n + 1
        → (s : Row) × Contains (old ++ x.row ∷ []) s × like (get_or rows i e) s
    go i e k h (inl b) j = let y = m.kept i e b k h in (y.0, Contains-append_left old (x.row ∷ []) (y.0) (y.1), y.2)
    go i e k h (inr b) j =
        let same : i ≡ n = omega arith in
        let row : get_or rows i e ≡ get_or rows n d = ap (λ q. get_or rows q e) same ∙ get_or_default rows n e d l in
        (x.row, Contains-push old x.row, subst (λ (q : Row). like q x.row) (sym row) x.carried)
carried-more can like rows n d old new l m (inr x) = rw x.1 (record {
  few = let a = m.few in omega arith;
  fits = m.fits;
  from = m.from;
  kept = λ i e j k h. go i e k h (cases_lt i n) j;
})
  where
    go : (i : ℕ) (e : Row) → i < length rows → can (get_or rows i e) → (i < n) ⊎ (n ≤ i) → i < n + 1 → (s : Row) × Contains old s × like (get_or rows i e) s
    go i e k h (inl b) j = m.kept i e b k h
    go i e k h (inr b) j =
        let same : i ≡ n = omega arith in
        let row : get_or rows i e ≡ get_or rows n d = ap (λ q. get_or rows q e) same ∙ get_or_default rows n e d l in
        absurd (x.0 (subst can row h))

-- What holds of each row, and so of what it is taken over as, holds of each of the new ones, and back where all can be taken over.
module _ (can : Row → Type 0) (like : Row → Row → Type 0) (P Q : Row → Type 0) (rows new : List Row) (m : AreCarried can like rows (length rows) new) where
  pub carried-all : ((r s : Row) → like r s → P r → Q s) → All P rows → All Q new
  carried-all step h i d l = let f = m.from i d l in step (f.0) (get_or new i d) (f.2) (All-contains P rows (f.0) h (f.1))

  pub carried-back : All can rows → ((r s : Row) → like r s → Q s → P r) → All Q new → All P rows
  carried-back cans step h i d l = let k = m.kept i d l l (cans i d l) in step (get_or rows i d) (k.0) (k.2) (All-contains Q new (k.0) h (k.1))

-- the row that is cut where it has no further coefficient
pub cut-level : (width : ℕ) (old new : Row) → IsNarrow width old → IsCut width old new → IsLevel width old new
cut-level width old new narrow c = record { size = c.size; same = λ k. go k (cases_lt k width); bound = c.bound }
  where
    go : (k : ℕ) → (k < width) ⊎ (width ≤ k) → coefficient k new ≡ coefficient k old
    go k (inl l) = c.same k l
    go k (inr l) = get_or_past new.coefficients k (pos 0) (let e = c.size in omega arith) ∙ sym (narrow k l)

-- holds where the other does
module _ (width : ℕ) (r s : Row) (m : IsLevel width r s) where
  same-sum : (point : List ℤ) → dot s.coefficients point ≡ dot r.coefficients point
  same-sum point = dot-agree point s.coefficients r.coefficients (λ k l. m.same k)

  pub level-forth : (point : List ℤ) → Holds r point → Holds s point
  level-forth point h = finish (dot s.coefficients point) (dot r.coefficients point) r.bound s.bound (same-sum point) m.bound h
    where
      finish : (u v b q : ℤ) → u ≡ v → q ≡ b → v ≤ℤ b → u ≤ℤ q
      finish u v b q e f h = omega (arith, ints)

  pub level-back : (point : List ℤ) → Holds s point → Holds r point
  level-back point h = finish (dot s.coefficients point) (dot r.coefficients point) r.bound s.bound (same-sum point) m.bound h
    where
      finish : (u v b q : ℤ) → u ≡ v → q ≡ b → u ≤ℤ q → v ≤ℤ b
      finish u v b q e f h = omega (arith, ints)

  pub level-narrow : (from : ℕ) → IsNarrow from r → IsNarrow from s
  level-narrow from narrow k l = m.same k ∙ narrow k l

-- a row that reads no column from one on reads none from a later one on
pub narrower : (from to : ℕ) (r : Row) → from ≤ to → IsNarrow from r → IsNarrow to r
narrower from to r l narrow k m = narrow k (omega arith)

pub level-width : (width : ℕ) (rows new : List Row) (n : ℕ) → AreCarried (IsNarrow width) (IsLevel width) rows n new
    → All (λ r. length r.coefficients ≡ width) new
level-width width rows new n m i d l = (m.from i d l).2.size

pub level-poly : (width : ℕ) (rows new : List Row) (n : ℕ) → n ≤ 1024 → AreCarried (IsNarrow width) (IsLevel width) rows n new → IsPoly new
level-poly width rows new n few m = record {
  widths = one_width width new (level-width width rows new n m);
  fits = m.fits;
  few = let a = m.few in omega arith;
}
