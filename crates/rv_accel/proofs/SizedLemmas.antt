-- Within the sizes nothing is dropped.
use Rattle.std.proofs.Common.{◌≡◌, ◌⊎◌, ℕ, ◌+◌, ◌*◌, ◌≤◌, ◌<◌, ℤ, pos, List, [], ◌++◌, length, get_or, All, arith, ap, sym, inl, inr, subst}
use Rattle.std.proofs.lemmas.Int.{ints}
use Rattle.std.proofs.lemmas.List.Elements.{All-contains, Contains-get_or, Contains-append_left, Contains-append_right}
use Rattle.std.specs.{List.Contains, Int.RustNames.unsigned_abs}
use Rattle.rv_rows.specs.{declared.linear.Row.Row, declared.linear.Form.Form, Forms.number, Tight.Fits}
use Rattle.rv_rows.proofs.IntLemmas.{abs-add}
use Rattle.rv_poly.specs.{Images.IsNarrow, Elimination.IsRowWithin}
use Rattle.rv_poly.proofs.EliminateLemmas.{number_within}
use Rattle.rv_proofs.specs.declared.report.Case.{Case}
use Rattle.rv_accel.specs.Turns.{IsCourse, HasNoReset, magnitude}
use Rattle.rv_accel.specs.{Pairs.gain, declared.loops.LoopSets.LoopSets}
use Rattle.rv_accel.specs.Shown.{MentionsReset, IsPinned, IsMovedRow}
use Rattle.rv_accel.specs.Around.{IsFirst, IsUsable, AreMovable, gaining, staying, losing}
use Rattle.rv_accel.specs.Loops.{AreSmall, IsAlong}
use Rattle.rv_accel.proofs.SizeLemmas.{Within, dot-size, m_small, b_small, pair-small, few_pairs}
use Rattle.rv_accel.proofs.CountLemmas.{both_counts, losing-le-staying}
use Rattle.std.proofs.Math.Nat.{mul-le-mul_left}

no_mention : (updates : List Form) → HasNoReset updates → (r : Row) → ¬ MentionsReset updates r
no_mention updates own r (k, f, e, z, n) = differ (number k f.coefficients) (z k) (own k f e).one
  where
    differ : (a : ℤ) → a ≡ pos 0 → a ≡ pos 1 → ⊥
    differ a h k = omega (arith, ints)

no_pin : (updates : List Form) → HasNoReset updates → (r : Row) → ¬ IsPinned updates r
no_pin updates own r p = differ (number p.column p.form.coefficients) (p.reset p.column) (own p.column p.form p.there).one
  where
    differ : (a : ℤ) → a ≡ pos 0 → a ≡ pos 1 → ⊥
    differ a h k = omega (arith, ints)

module _ (entry : List Row) (c : Case) (t : List ℤ) (s : LoopSets) (m b n : ℕ) (course : IsCourse c.updates t)
    (entry_narrow : All (IsNarrow (length c.updates)) entry) (tests_narrow : All (IsNarrow (length c.updates)) c.rows)
    (small : AreSmall entry c m b n) (l : IsAlong entry c.updates t c.rows s) where
  mag : magnitude t ≤ n
  mag = small.direction t course.direction

  lm : 1 ≤ m
  lm = small.least.0

  lb : 1 ≤ b
  lb = small.least.1

  ln : 1 ≤ n
  ln = small.least.2

  plain : (r : Row) → IsRowWithin m b r → Within m b r
  plain r w = ((λ k. number_within m r.coefficients w.coefficients k), w.bound)

  wider : (r : Row) → Within m b r → Within m (b + m * n) r
  wider r w = (w.0, let x = w.1 in omega arith)

  fits : (r : Row) → IsRowWithin m b r → Fits r
  fits r w = record {
    coefficients = λ i d k. let x = w.coefficients i d k in let y = m_small m b n lm lb ln small.coefficients small.bounds in omega arith;
    bound = let x = w.bound in let y = b_small m b n lm lb ln small.coefficients small.bounds in omega arith;
  }

  usable : (r : Row) → IsRowWithin m b r → IsNarrow (length c.updates) r → IsUsable c.updates r
  usable r w narrow = record { fits = fits r w; narrow = narrow; kept = λ h. no_mention c.updates small.resets r h }

  moved_within : (p r : Row) → Within m b p → IsMovedRow t p r → Within m (b + m * n) r
  moved_within p r w moved = (
    (λ k. subst (λ z. unsigned_abs z ≤ m) (sym (moved.coefficients k)) (w.0 k)),
    (let a = abs-add p.bound (gain t p) in
        let g = dot-size m t p.coefficients (w.0) in
        let h = mul-le-mul_left m mag in
        let e = ap unsigned_abs moved.bound in
        let x = w.1 in
        joined _ _ _ _ _ _ e a g h x),
  )
    where
      joined : (d u v w x y : ℕ) → d ≡ u → u ≤ v + w → w ≤ x → x ≤ y → v ≤ b → d ≤ b + y
      joined d u v w x y e a g h k = omega arith

  movable : (rows : List Row) → All (IsRowWithin m b) rows → All (IsNarrow (length c.updates)) rows → AreMovable c.updates t rows
  movable rows w narrow i d k = record {
    usable = usable (get_or rows i d) (w i d k) (narrow i d k);
    bound = λ q moved. let x = (moved_within (get_or rows i d) q (plain (get_or rows i d) (w i d k)) moved).1 in
        let y = b_small m b n lm lb ln small.coefficients small.bounds in omega arith;
  }

  entry_within : All (IsRowWithin m b) entry
  entry_within i d k = All-contains (IsRowWithin m b) (entry ++ c.rows) (get_or entry i d) small.within
      (Contains-append_left entry c.rows (get_or entry i d) (Contains-get_or entry i d k))

  tests_within : All (IsRowWithin m b) c.rows
  tests_within i d k = All-contains (IsRowWithin m b) (entry ++ c.rows) (get_or c.rows i d) small.within
      (Contains-append_right entry c.rows (get_or c.rows i d) (Contains-get_or c.rows i d k))

  first_none : l.made.dropped ≡ 0
  first_none = let r = small.rows in
      l.first_room small.resets (omega arith) (movable entry entry_within entry_narrow) (movable c.rows tests_within tests_narrow)

  first_of : (i : ℕ) (d : Row) → i < length l.made.rows → IsFirst (entry ++ c.rows) c.updates t (get_or l.made.rows i d)
      (get_or l.made.by i (record { divisor = pos 1; weights = [] }))
  first_of i d k = l.first.shown.each i d (record { divisor = pos 1; weights = [] }) k

  first_within : (i : ℕ) (d : Row) → i < length l.made.rows → Within m (b + m * n) (get_or l.made.rows i d)
  first_within i d k = go (get_or l.made.rows i d) ((first_of i d k).origin)
    where
      go : (r : Row) → IsPinned c.updates r ⊎ ((p : Row) × Contains (entry ++ c.rows) p × IsMovedRow t p r) → Within m (b + m * n) r
      go r (inl p) = absurd (no_pin c.updates small.resets r p)
      go r (inr (p, h, moved)) = moved_within p r (plain p (All-contains (IsRowWithin m b) (entry ++ c.rows) p small.within h)) moved

  first_usable : (i : ℕ) (d : Row) → i < length l.made.rows → IsUsable c.updates (get_or l.made.rows i d)
  first_usable i d k =
      let f = (first_of i d k).down in
      record { fits = f.fits; narrow = f.narrow; kept = λ h. no_mention c.updates small.resets (get_or l.made.rows i d) h }

  around_none : l.grown.dropped ≡ 0
  around_none = l.around_room
      (λ i d k. (
        usable (get_or c.rows i d) (tests_within i d k) (tests_narrow i d k),
        λ j e h. pair-small m b n lm lb ln small.coefficients small.bounds t mag (get_or c.rows i d) (get_or l.made.rows j e)
            (wider (get_or c.rows i d) (plain (get_or c.rows i d) (tests_within i d k))) (first_within j e h),
      ))
      (λ i d k. (
        first_usable i d k,
        λ j e h. pair-small m b n lm lb ln small.coefficients small.bounds t mag (get_or l.made.rows i d) (get_or l.made.rows j e)
            (first_within i d k) (first_within j e h),
      ))
      (few_pairs (gaining t entry) (gaining t c.rows) (staying t entry) (staying t c.rows) (gaining t l.made.rows) (staying t l.made.rows)
      (losing t l.made.rows)
      (length entry) (length c.rows) (both_counts t entry) (both_counts t c.rows) small.rows (l.ups small.resets) (l.levels small.resets)
      (losing-le-staying t l.made.rows))

  pub none-dropped : s.dropped ≡ 0
  none-dropped = l.all first_none around_none
