-- The closest places of each left side.
use Rattle.std.proofs.Common.{◌≡◌, ◌≢◌, ℕ, ◌+◌, ◌<◌, ◌≤◌, ℤ, pos, ◌≤ℤ◌, List, length, Option, None, Some, IfSome, IsSome, IsSomeAnd, cond, Bool, true, false}
use Rattle.std.proofs.Common.{true≢false, arith, refl, ap, sym, ◌∙◌, ◌⊎◌, inl, inr}
use Rattle.std.proofs.{lemmas.Int.ints, lemmas.Bool.cases_lt, lemmas.List.ext_get_or, lemmas.List.get_or_past, lemmas.Cmp.lists_total, lemmas.Cmp.int_cmp_total}
use Rattle.std.specs.{BTreeMap.BTreeMap, Cmp.Lexicographic.slice_cmp, Ordering.int_cmp, Ordering.is_eq, Ordering.ordering_reverse}
use Rattle.std.specs.{declared.cmp.Ordering.Ordering, declared.cmp.Ordering.TheVariants.Less, declared.cmp.Ordering.TheVariants.Equal}
use Rattle.std.specs.{declared.cmp.Ordering.TheVariants.Greater, FinMap.slice_cmp-IsAntisymmetric, FinMap.int_cmp-IsAntisymmetric, Global.Vec}
use Rattle.rv_rows.specs.{declared.linear.Row.Row, Rows.row_at, Forms.number}
use Rattle.rv_seek.specs.declared.sides.Closest.{Closest}
use Rattle.rv_seek.specs.Sides.{closest_at, IsSide, IsOther, IsClosest, IsKept, IsPut, IsTable}

-- equal lists compare equal, and the other way round
same-cmp : (xs : List ℤ) → slice_cmp int_cmp xs xs ≡ Equal
same-cmp xs = go (slice_cmp int_cmp xs xs) ((lists_total int_cmp_total).antisymm xs xs)
  where
    go : (o : Ordering) → o ≡ ordering_reverse o → o ≡ Equal
    go Equal h = refl
    go Less h = cc
    go Greater h = cc

same-items : (xs ys : List ℤ) → is_eq (slice_cmp int_cmp xs ys) ≡ true → xs ≡ ys
same-items xs ys e = slice_cmp-IsAntisymmetric int_cmp-IsAntisymmetric xs ys (go (slice_cmp int_cmp xs ys) e)
  where
    go : (o : Ordering) → is_eq o ≡ true → o ≡ Equal
    go Equal h = refl
    go Less h = cc
    go Greater h = cc

-- two lists of one length with a row's coefficients are one
one_side : (r : Row) (width : ℕ) (xs ys : List ℤ) → length xs ≡ width → length ys ≡ width → IsSide r xs → IsSide r ys → xs ≡ ys
one_side r width xs ys a b f g = ext_get_or (pos 0) xs ys (a ∙ sym b) (λ i l. f i ∙ sym (g i))

both : (rows : List Row) (o : Option ℕ) (x y : ℤ) → IfSome o (λ z. x ≤ℤ (row_at rows z).bound) → IsSomeAnd o (λ z. (row_at rows z).bound ≤ℤ y) → x ≤ℤ y
both rows None x y h k = absurd k
both rows (Some z) x y h k = omega (arith, ints)

-- one more place with the left side
module _ (rows : List Row) (n : ℕ) (cs : List ℤ) (side : IsSide (row_at rows n) cs) where
  pub closest-one : ((i : ℕ) → i < n → ¬ (IsSide (row_at rows i) cs)) → IsClosest rows (n + 1) cs (record { first = n; second = None })
  closest-one none = record {
    below = omega arith;
    side = side;
    least = λ i l s. go i s (cases_lt i n) l;
    others = record { found = tt; least = λ i l ne s. absurd (none i (omega arith) s) };
  }
    where
      go : (i : ℕ) → IsSide (row_at rows i) cs → (i < n) ⊎ (n ≤ i) → i < n + 1 → (row_at rows n).bound ≤ℤ (row_at rows i).bound
      go i s (inl l) m = absurd (none i l s)
      go i s (inr l) m = let e : i ≡ n = omega arith in rw e (omega (arith, ints))

  module _ (old : Closest) (c : IsClosest rows n cs old) where
    module _ (p : ℕ) (first : (row_at rows old.first).bound ≤ℤ (row_at rows n).bound)
        (one : (p ≡ n) ⊎ (old.second ≡ Some p)) (here : (row_at rows p).bound ≤ℤ (row_at rows n).bound)
        (there : IfSome old.second (λ o. (row_at rows p).bound ≤ℤ (row_at rows o).bound)) where
      own : (p < n + 1) × (p ≢ old.first) × IsSide (row_at rows p) cs
      own = go one
        where
          go : (p ≡ n) ⊎ (old.second ≡ Some p) → (p < n + 1) × (p ≢ old.first) × IsSide (row_at rows p) cs
          go (inl e) = let b = c.below in (omega arith, omega arith, rw e side)
          go (inr e) = let s = rw e at c.others.found in let l = s.0 in (omega arith, s.1, s.2)

      other_least : (i : ℕ) → i < n + 1 → i ≢ old.first → IsSide (row_at rows i) cs → (i < n) ⊎ (n ≤ i) → (row_at rows p).bound ≤ℤ (row_at rows i).bound
      other_least i m ne s (inl l) = both rows old.second (row_at rows p).bound (row_at rows i).bound there (c.others.least i l ne s)
      other_least i m ne s (inr l) = let e : i ≡ n = omega arith in rw e here

      first_least : (i : ℕ) → i < n + 1 → IsSide (row_at rows i) cs → (i < n) ⊎ (n ≤ i) → (row_at rows old.first).bound ≤ℤ (row_at rows i).bound
      first_least i m s (inl l) = c.least i l s
      first_least i m s (inr l) = let e : i ≡ n = omega arith in rw e first

      pub closest-kept : IsClosest rows (n + 1) cs (record { first = old.first; second = Some p })
      closest-kept = record {
        below = let b = c.below in omega arith;
        side = c.side;
        least = λ i l s. first_least i l s (cases_lt i n);
        others = record { found = own; least = λ i l ne s. other_least i l ne s (cases_lt i n) };
      }

-- a left side that the map lacks is that of no place
pub none_kept : (rows : List Row) (width n : ℕ) (map : BTreeMap (Vec ℤ) Closest) (cs : List ℤ) → IsTable rows width n map → length cs ≡ width
    → closest_at map cs ≡ None → (i : ℕ) → i < n → ¬ (IsSide (row_at rows i) cs)
none_kept rows width n map cs table len none i l s =
    let k = table.complete i l in
    let same : k.key.items ≡ cs = one_side (row_at rows i) width k.key.items cs k.columns len k.side s in
    let kept : IsSome (closest_at map cs) = rw same at k.kept in
    absurd (true≢false (sym (rw none at kept)))

-- nothing where no place has the left side
pub other-none : (rows : List Row) (n : ℕ) (cs : List ℤ) (place : ℕ) → ((i : ℕ) → i < n → ¬ (IsSide (row_at rows i) cs)) → IsOther rows n cs place None
other-none rows n cs place none = record { found = tt; least = λ i l apart s. absurd (none i l s) }

-- one more place
module _ (rows : List Row) (width n : ℕ) (c : Closest) (m m' : BTreeMap (Vec ℤ) Closest) (key : Vec ℤ) (table : IsTable rows width n m)
    (put : IsPut rows width n key c m m') (closest : IsClosest rows (n + 1) key.items c) where
  there : closest_at m' key.items ≡ Some c
  there = put.changed key ∙ ap (λ o. cond (is_eq o) (Some c) (closest_at m key.items)) (same-cmp key.items)

  -- a left side other than the new place's
  apart : (q : Vec ℤ) → is_eq (slice_cmp int_cmp key.items q.items) ≡ false → length q.items ≡ width → ¬ (IsSide (row_at rows n) q.items)
  apart q e l s =
      let same : key.items ≡ q.items = one_side (row_at rows n) width key.items q.items put.columns l put.side s in
      true≢false (sym (ap is_eq (ap (slice_cmp int_cmp key.items) (sym same) ∙ same-cmp key.items)) ∙ e)

  still_other : (q : List ℤ) → ¬ (IsSide (row_at rows n) q) → (place : ℕ) (o : Option ℕ) → IsOther rows n q place o → IsOther rows (n + 1) q place o
  still_other q away place o h = record { found = found o h.found; least = λ i l ne s. go i l ne s (cases_lt i n) }
    where
      found : (o : Option ℕ) → IfSome o (λ p. (p < n) × (p ≢ place) × IsSide (row_at rows p) q)
          → IfSome o (λ p. (p < n + 1) × (p ≢ place) × IsSide (row_at rows p) q)
      found None k = tt
      found (Some p) k = let l = k.0 in (omega arith, k.1, k.2)

      go : (i : ℕ) → i < n + 1 → i ≢ place → IsSide (row_at rows i) q → (i < n) ⊎ (n ≤ i) → IsSomeAnd o (λ p. (row_at rows p).bound ≤ℤ (row_at rows i).bound)
      go i m ne s (inl l) = h.least i l ne s
      go i m ne s (inr l) = let e : i ≡ n = omega arith in absurd (away (rw e at s))

  still_closest : (q : List ℤ) → ¬ (IsSide (row_at rows n) q) → (old : Closest) → IsClosest rows n q old → IsClosest rows (n + 1) q old
  still_closest q away old h = record {
    below = let b = h.below in omega arith;
    side = h.side;
    least = λ i l s. go i l s (cases_lt i n);
    others = still_other q away old.first old.second h.others;
  }
    where
      go : (i : ℕ) → i < n + 1 → IsSide (row_at rows i) q → (i < n) ⊎ (n ≤ i) → (row_at rows old.first).bound ≤ℤ (row_at rows i).bound
      go i m s (inl l) = h.least i l s
      go i m s (inr l) = let e : i ≡ n = omega arith in absurd (away (rw e at s))

  sound_at : (q : Vec ℤ) → IfSome (closest_at m' q.items) (λ o. (length q.items ≡ width) × IsClosest rows (n + 1) q.items o)
  sound_at q = rw (put.changed q) (go (is_eq (slice_cmp int_cmp key.items q.items)) refl)
    where
      kept : is_eq (slice_cmp int_cmp key.items q.items) ≡ false → (o : Option Closest) → IfSome o (λ x. (length q.items ≡ width) × IsClosest rows n q.items x)
          → IfSome o (λ x. (length q.items ≡ width) × IsClosest rows (n + 1) q.items x)
      kept e None h = tt
      kept e (Some x) h = (h.0, still_closest q.items (apart q e h.0) x h.1)

      go : (b : Bool) → is_eq (slice_cmp int_cmp key.items q.items) ≡ b
          → IfSome (cond b (Some c) (closest_at m q.items)) (λ o. (length q.items ≡ width) × IsClosest rows (n + 1) q.items o)
      go true e = let same : key.items ≡ q.items = same-items key.items q.items e in rw (sym same) (put.columns, closest)
      go false e = kept e (closest_at m q.items) (table.sound q)

  complete_at : (i : ℕ) → i < n + 1 → (i < n) ⊎ (n ≤ i) → IsKept rows width m' i
  complete_at i below (inl l) = let k = table.complete i l in record {
    key = k.key;
    columns = k.columns;
    side = k.side;
    kept = rw (put.changed k.key) (go k.key (is_eq (slice_cmp int_cmp key.items k.key.items)) k.kept);
  }
    where
      go : (q : Vec ℤ) (b : Bool) → IsSome (closest_at m q.items) → IsSome (cond b (Some c) (closest_at m q.items))
      go q true h = refl
      go q false h = h
  complete_at i below (inr l) = let e : i ≡ n = omega arith in rw e (record {
    key = key;
    columns = put.columns;
    side = put.side;
    kept = rw there refl;
  })

  pub table-more : IsTable rows width (n + 1) m'
  table-more = record { sound = sound_at; complete = λ i l. complete_at i l (cases_lt i n) }

-- two values that are put at the left side of one place have one key
pub put_key : (rows : List Row) (width n : ℕ) (key again : Vec ℤ) (c d : Closest) (m m1 m2 : BTreeMap (Vec ℤ) Closest) → IsPut rows width n key c m m1
    → IsPut rows width n again d m1 m2 → again.items ≡ key.items
put_key rows width n key again c d m m1 m2 one two =
    one_side (row_at rows n) width again.items key.items two.columns one.columns two.side one.side

-- a value that is put where another has been put before
pub put_again : (rows : List Row) (width n : ℕ) (key again : Vec ℤ) (c d : Closest) (m m1 m2 : BTreeMap (Vec ℤ) Closest) → IsPut rows width n key c m m1
    → IsPut rows width n again d m1 m2 → IsPut rows width n key d m m2
put_again rows width n key again c d m m1 m2 one two = record {
  columns = one.columns;
  side = one.side;
  changed = λ q. two.changed q ∙ ap (λ l. cond (is_eq (slice_cmp int_cmp l q.items)) (Some d) (closest_at m1 q.items)) same
      ∙ ap (cond (is_eq (slice_cmp int_cmp key.items q.items)) (Some d)) (one.changed q)
      ∙ twice (is_eq (slice_cmp int_cmp key.items q.items)) (closest_at m q.items);
}
  where
    same : again.items ≡ key.items
    same = put_key rows width n key again c d m m1 m2 one two

    twice : (b : Bool) (o : Option Closest) → cond b (Some d) (cond b (Some c) o) ≡ cond b (Some d) o
    twice true o = refl
    twice false o = refl

-- a left side that the map has already is that of the closest places before
pub closest_before : (rows : List Row) (width n : ℕ) (map : BTreeMap (Vec ℤ) Closest) (key : Vec ℤ) (old : Closest) → IsTable rows width n map
    → closest_at map key.items ≡ Some old → IsClosest rows n key.items old
closest_before rows width n map key old table e = let t = rw e at (table.sound key) in t.1

-- the numbers past a width are all 0 where those up to the end are
pub all_past : (cs : List ℤ) (width n : ℕ) → length cs ≤ n → ((k : ℕ) → width ≤ k → k < n → number k cs ≡ pos 0) → (k : ℕ) → width ≤ k → number k cs ≡ pos 0
all_past cs width n le h k w = go (cases_lt k n)
  where
    go : (k < n) ⊎ (n ≤ k) → number k cs ≡ pos 0
    go (inl l) = h k w l
    go (inr l) = get_or_past cs k (pos 0) (omega arith)
