-- Rows with 1 or -1 at one or two columns that are added one after the other.
use Rattle.std.proofs.Common.{◌≡◌, ◌⊎◌, ℕ, ◌+◌, ◌≤◌, ◌<◌, ◌^◌, ℤ, pos, negsuc, Bool, true, false, List, length, All, arith, refl, ap, sym, ◌∙◌, subst, inl, inr}
use Rattle.std.proofs.{lemmas.Bool.cases_lt, lemmas.List.same_lists, lemmas.List.get_or_default}
use Rattle.std.specs.{Prelude.if◌then◌else◌, Prelude.nat_eq, Int.RustNames.unsigned_abs}
use Rattle.rv_rows.specs.{declared.linear.Row.Row, Forms.number}
use Rattle.rv_poly.specs.Closing.{KeepsSide, KeepsUnit, KeepsPair, IsSideAdded, IsGrown, unit_number, IsUnitSide, IsUnitAdded, IsPairAdded, AreAxesAdded}
use Rattle.rv_poly.specs.Closing.{ArePairsAdded, AreDiagonalsAdded, AreUnitsAdded}
use Rattle.rv_poly.proofs.ClosingLemmas.{grown-none, grown-more, grown-one, keeps-later, keeps-added}
use Rattle.rv_base.proofs.Numbers.{one_cases}

unit_small : (a b : Bool) (by other : ℤ) → unsigned_abs by ≡ 1 → unsigned_abs other ≡ 1 → unsigned_abs (if a then by else (if b then other else pos 0)) ≤ 2 ^ 30
unit_small true b by other h k = omega arith
unit_small false true by other h k = omega arith
unit_small false false by other h k = omega arith

pub side-small : (width first second : ℕ) (by other : ℤ) (side : List ℤ) → unsigned_abs by ≡ 1 → unsigned_abs other ≡ 1 → length side ≡ width
    → ((k : ℕ) → k < width → number k side ≡ unit_number first by second other k) → All (λ c. unsigned_abs c ≤ 2 ^ 30) side
side-small width first second by other side h k w n i d l =
    let m : i < width = omega arith in
    rw (get_or_default side i d (pos 0) l, n i m) (unit_small (nat_eq i first) (nat_eq i second) by other h k)

axis_number : (b : Bool) (by other : ℤ) → (if b then by else (if b then other else pos 0)) ≡ (if b then by else (if b then by else pos 0))
axis_number true by other = refl
axis_number false by other = refl

module _ (has : List ℤ → Type 0) (shows : Row → Type 0) (width : ℕ) where
  unit-later : (first second : ℕ) (by other : ℤ) (now new : List Row) → IsGrown has width now new → KeepsUnit shows width first by second other now
      → KeepsUnit shows width first by second other new
  unit-later first second by other now new g k room s w n = let x = g.size in keeps-later has shows width s now new g (k (omega arith) s w n)

  pair-later : (first second : ℕ) (now new : List Row) → IsGrown has width now new → KeepsPair shows width first second now
      → KeepsPair shows width first second new
  pair-later first second now new g k by other h m = unit-later first second by other now new g (k by other h m)

  pub unit-added : (first second : ℕ) (by other : ℤ) (side : List ℤ) (old new : List Row) → unsigned_abs by ≡ 1 → unsigned_abs other ≡ 1 → length side ≡ width
      → ((k : ℕ) → k < width → number k side ≡ unit_number first by second other k) → IsSideAdded has shows side old new
      → IsUnitAdded has shows width first by second other old new
  unit-added first second by other side old new h k w n one = record { grown = grown; found = found }
    where
      grown : IsGrown has width old new
      grown = grown-one has shows width side old new w (side-small width first second by other side h k w n) one.one

      found : KeepsUnit shows width first by second other new
      found room s v m =
          let x = grown.size in
          let same : side ≡ s = same_lists side s (w ∙ sym v) (λ i d l. let u : i < width = omega arith in let y : i < length s = omega arith in
          get_or_default side i d (pos 0) l ∙ n i u ∙ sym (m i u) ∙ get_or_default s i (pos 0) d y) in
          let P : List ℤ → Type 0 = λ z. KeepsSide shows z new in
          subst P same (keeps-added has shows side old new one (omega arith))

  pub pair-added : (first second : ℕ) (a b c d e : List Row) → IsUnitAdded has shows width first (pos 1) second (pos 1) a b
      → IsUnitAdded has shows width first (pos 1) second (negsuc 0) b c
      → IsUnitAdded has shows width first (negsuc 0) second (pos 1) c d → IsUnitAdded has shows width first (negsuc 0) second (negsuc 0) d e
      → IsPairAdded has shows width first second a e
  pair-added first second a b c d e p q r s = record {
    grown = grown-more has shows width a b e p.grown be;
    found = λ by other h k. go by other (one_cases by h) (one_cases other k);
  }
    where
      ce : IsGrown has width c e
      ce = grown-more has shows width c d e r.grown s.grown

      be : IsGrown has width b e
      be = grown-more has shows width b c e q.grown ce

      go : (by other : ℤ) → (by ≡ pos 1) ⊎ (by ≡ negsuc 0) → (other ≡ pos 1) ⊎ (other ≡ negsuc 0) → KeepsUnit shows width first by second other e
      go by other (inl x) (inl y) = rw (x, y) (unit-later first second (pos 1) (pos 1) b e be p.found)
      go by other (inl x) (inr y) = rw (x, y) (unit-later first second (pos 1) (negsuc 0) c e ce q.found)
      go by other (inr x) (inl y) = rw (x, y) (unit-later first second (negsuc 0) (pos 1) d e s.grown r.found)
      go by other (inr x) (inr y) = rw (x, y) s.found

  pub axis-added : (first : ℕ) (a b c : List Row) → IsUnitAdded has shows width first (pos 1) first (pos 1) a b
      → IsUnitAdded has shows width first (negsuc 0) first (negsuc 0) b c
      → IsPairAdded has shows width first first a c
  axis-added first a b c p q = record {
    grown = grown-more has shows width a b c p.grown q.grown;
    found = λ by other h k. go by other (one_cases by h);
  }
    where
      go : (by other : ℤ) → (by ≡ pos 1) ⊎ (by ≡ negsuc 0) → KeepsUnit shows width first by first other c
      go by other (inl x) room s w n = unit-later first first (pos 1) (pos 1) b c q.grown p.found room s w
          (λ i l. rw x at (n i l ∙ axis_number (nat_eq i first) by other))
      go by other (inr x) room s w n = q.found room s w (λ i l. rw x at (n i l ∙ axis_number (nat_eq i first) by other))

  pub axes-none : (old : List Row) → AreAxesAdded has shows width 0 old old
  axes-none old = record { grown = grown-none has shows width old; found = λ first l. absurd (omega arith) }

  pub axes-more : (n : ℕ) (old now new : List Row) → AreAxesAdded has shows width n old now → IsPairAdded has shows width n n now new
      → AreAxesAdded has shows width (n + 1) old new
  axes-more n old now new a p = record {
    grown = grown-more has shows width old now new a.grown p.grown;
    found = λ first l. go first l (cases_lt first n);
  }
    where
      go : (first : ℕ) → first < n + 1 → (first < n) ⊎ (n ≤ first) → KeepsPair shows width first first new
      go first l (inl m) = pair-later first first now new p.grown (a.found first m)
      go first l (inr m) = let e : first ≡ n = omega arith in rw e p.found

  pub pairs-none : (first : ℕ) (old : List Row) → ArePairsAdded has shows width first (first + 1) old old
  pairs-none first old = record { grown = grown-none has shows width old; found = λ second l m. absurd (omega arith) }

  pub pairs-more : (first n : ℕ) (old now new : List Row) → ArePairsAdded has shows width first n old now → IsPairAdded has shows width first n now new
      → ArePairsAdded has shows width first (n + 1) old new
  pairs-more first n old now new a p = record {
    grown = grown-more has shows width old now new a.grown p.grown;
    found = λ second l m. go second l m (cases_lt second n);
  }
    where
      go : (second : ℕ) → first < second → second < n + 1 → (second < n) ⊎ (n ≤ second) → KeepsPair shows width first second new
      go second l m (inl o) = pair-later first second now new p.grown (a.found second l o)
      go second l m (inr o) = let e : second ≡ n = omega arith in rw e p.found

  pub diagonals-none : (old : List Row) → AreDiagonalsAdded has shows width 0 old old
  diagonals-none old = record { grown = grown-none has shows width old; found = λ first second l m o. absurd (omega arith) }

  pub diagonals-more : (n : ℕ) (old now new : List Row) → AreDiagonalsAdded has shows width n old now → ArePairsAdded has shows width n width now new
      → AreDiagonalsAdded has shows width (n + 1) old new
  diagonals-more n old now new a p = record {
    grown = grown-more has shows width old now new a.grown p.grown;
    found = λ first second l m o. go first second l m o (cases_lt first n);
  }
    where
      go : (first second : ℕ) → first < n + 1 → first < second → second < width → (first < n) ⊎ (n ≤ first) → KeepsPair shows width first second new
      go first second l m o (inl x) = pair-later first second now new p.grown (a.found first second x m o)
      go first second l m o (inr x) = let e : first ≡ n = omega arith in rw e (p.found second (rw e at m) o)

  pub units-made : (a b c : List Row) → AreAxesAdded has shows width width a b → AreDiagonalsAdded has shows width width b c → AreUnitsAdded has shows width a c
  units-made a b c x y = record {
    grown = grown-more has shows width a b c x.grown y.grown;
    found = λ room side u. go room side u (cases_lt u.first u.second);
  }
    where
      go : length c < 1024 → (side : List ℤ) → (u : IsUnitSide width side) → (u.first < u.second) ⊎ (u.second ≤ u.first) → KeepsSide shows side c
      go room side u (inl l) =
          let m = u.second_in in y.found u.first u.second (omega arith) l m u.by u.other u.by_one u.other_one room side u.size u.numbers
      go room side u (inr l) =
          let o = u.order in
          let m = u.second_in in
          let e : u.second ≡ u.first = omega arith in
          let s = y.grown.size in
          keeps-later has shows width side b c y.grown (x.found u.first (omega arith) u.by u.other u.by_one u.other_one (omega arith) side u.size
          (λ k i. u.numbers k i ∙ ap (λ j. unit_number u.first u.by j u.other k) e))
