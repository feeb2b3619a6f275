-- Left sides that are added to a table.
use Rattle.std.proofs.Common.{◌≡◌, ◌≢◌, ℕ, ◌+◌, ◌*◌, ◌<◌, ◌≤◌, ℤ, pos, negsuc, List, [], ◌∷◌, length, get_or, arith, refl, sym, ap, ◌∙◌, subst, ◌⊎◌, inl, inr}
use Rattle.std.proofs.lemmas.List.{length_push, get_or_push, get_or_append_left, ext_get_or, get_or_past}
use Rattle.std.proofs.{Math.Nat.mul-le-mul, lemmas.Int.ints, lemmas.Bool.cases_lt, lemmas.Bool.cases_eq}
use Rattle.rv_rows.specs.{declared.linear.Row.Row, Rows.coefficient, Rows.row_at}
use Rattle.rv_proofs.specs.{Systems.System, RowClaims.IsUnit, RowClaims.HasOne, RowClaims.HasTwo}
use Rattle.rv_rise.specs.Sides.{IsSide, AreSides}
use Rattle.rv_rise.specs.Table.{IsPattern, IsAdded, AreBothAdded, IsPlace, column_places, pair_places, IsListed, IsTableOf}

-- one place more
abbrev pub with_place : (ℕ → ℤ → ℕ → ℤ → Type 0) → ℕ → ℤ → ℕ → ℤ → ℕ → ℤ → ℕ → ℤ → Type 0
with_place P x a y b first one second other = P first one second other ⊎ ((first ≡ x) × (one ≡ a) × (second ≡ y) × (other ≡ b))

-- Left sides at both places are different.
pub data AreApart (x : ℕ) (a : ℤ) (y : ℕ) (b : ℤ) (first : ℕ) (one : ℤ) (second : ℕ) (other : ℤ) : Type 0 where
  lower : second < y → AreApart x a y b first one second other
  turned : second ≡ y → (other ≡ b → ⊥) → AreApart x a y b first one second other
  alone : second ≡ y → x < y → first ≡ y → AreApart x a y b first one second other
  earlier : second ≡ y → x < y → first < x → AreApart x a y b first one second other
  opposite : second ≡ y → x < y → first ≡ x → (one ≡ a → ⊥) → AreApart x a y b first one second other

no_unit : (z : ℤ) → IsUnit z → z ≡ pos 0 → ⊥
no_unit z (inl e) q = let d : pos 1 ≡ pos 0 = sym e ∙ q in omega (arith, ints)
no_unit z (inr e) q = let d : negsuc 0 ≡ pos 0 = sym e ∙ q in omega (arith, ints)

apart_rows : (k x : ℕ) (a : ℤ) (y : ℕ) (b : ℤ) (r : Row) → IsPattern k x a y b r → IsUnit b → (x < y → IsUnit a) → (P : ℕ → ℤ → ℕ → ℤ → Type 0) (q : Row)
    → (l : IsListed k P q) → AreApart x a y b l.first l.one l.second l.other → q.coefficients ≡ r.coefficients → ⊥
apart_rows k x a y b r pattern unit one_unit P q l apart e = go apart
  where
    at : (n : ℕ) → coefficient n q ≡ coefficient n r
    at n = ap (λ (cs : List ℤ). get_or cs n (pos 0)) e

    order : l.first ≤ l.second
    order = l.order

    go : AreApart x a y b l.first l.one l.second l.other → ⊥
    go (lower m) = no_unit b unit (sym pattern.last ∙ sym (at y) ∙ l.pattern.others y (λ d. omega (arith, m, order, d)) (λ d. omega (arith, m, d)))
    go (turned s ne) = ne (sym l.pattern.last ∙ ap (λ (n : ℕ). coefficient n q) s ∙ at y ∙ pattern.last)
    go (alone s m f) = no_unit a (one_unit m) (sym (pattern.start (λ d. omega (arith, m, d))) ∙ sym (at x)
        ∙ l.pattern.others x (λ d. omega (arith, m, f, d)) (λ d. omega (arith, m, s, d)))
    go (earlier s m f) = no_unit a (one_unit m) (sym (pattern.start (λ d. omega (arith, m, d))) ∙ sym (at x)
        ∙ l.pattern.others x (λ d. omega (arith, f, d)) (λ d. omega (arith, m, s, d)))
    go (opposite s m f ne) = ne (sym (l.pattern.start (λ d. omega (arith, m, s, f, d))) ∙ ap (λ (n : ℕ). coefficient n q) f ∙ at x
        ∙ pattern.start (λ d. omega (arith, m, d)))

same_place : (k : ℕ) (r : Row) (x : ℕ) (a : ℤ) (y : ℕ) (b : ℤ) (first : ℕ) (one : ℤ) (second : ℕ) (other : ℤ) → first ≡ x → one ≡ a → second ≡ y → other ≡ b
    → IsPattern k x a y b r → IsPattern k first one second other r
same_place k r x a y b first one second other e f g h p =
    subst (λ (n : ℕ). IsPattern k n one second other r) (sym e)
    (subst (λ (z : ℤ). IsPattern k x z second other r) (sym f)
    (subst (λ (n : ℕ). IsPattern k x a n other r) (sym g)
    (subst (λ (z : ℤ). IsPattern k x a y z r) (sym h) p)))

-- a left side is made
pub pattern_of : (k x : ℕ) (a : ℤ) (y : ℕ) (b : ℤ) (r : Row) → x ≤ y → y < k → length r.coefficients ≡ k → r.bound ≡ pos 0
    → ((n : ℕ) → n < k → n ≡ y → coefficient n r ≡ b) → ((n : ℕ) → n < k → (n ≡ y → ⊥) → n ≡ x → coefficient n r ≡ a)
    → ((n : ℕ) → n < k → (n ≡ y → ⊥) → (n ≡ x → ⊥) → coefficient n r ≡ pos 0) → IsPattern k x a y b r
pattern_of k x a y b r order known size bound last start none = record {
  size = size;
  bound = bound;
  last = last y known refl;
  start = λ ne. start x (omega (arith, order, known)) ne refl;
  others = λ n ne me. others n ne me (cases_lt n k);
}
  where
    others : (n : ℕ) → (n ≡ x → ⊥) → (n ≡ y → ⊥) → (n < k) ⊎ (k ≤ n) → coefficient n r ≡ pos 0
    others n ne me (inl l) = none n l me ne
    others n ne me (inr m) = get_or_past r.coefficients n (pos 0) (omega (arith, m, size))

abbrev nothing : Row
nothing = record { coefficients = []; bound = pos 0 }

-- one left side more
pub added : (k : ℕ) (P : ℕ → ℤ → ℕ → ℤ → Type 0) (x : ℕ) (a : ℤ) (y : ℕ) (b : ℤ) (old new : List Row) → x ≤ y → y < k → IsUnit b → (x < y → IsUnit a)
    → IsTableOf k P old → ((first : ℕ) (one : ℤ) (second : ℕ) (other : ℤ) → P first one second other → AreApart x a y b first one second other)
    → IsAdded k x a y b old new → IsTableOf k (with_place P x a y b) new
added k P x a y b old new order known unit one_unit table fresh add = record {
  each = λ i l. each i l (cases_lt i (length old));
  different = λ i j l m e. different i j l m e (cases_lt j (length old));
  all = all;
}
  where
    long : length new ≡ length old + 1
    long = ap length add.are ∙ length_push old add.side

    before : (i : ℕ) → i < length old → row_at new i ≡ row_at old i
    before i l = ap (λ (rs : List Row). row_at rs i) add.are ∙ get_or_append_left old (add.side ∷ []) nothing i l

    last : row_at new (length old) ≡ add.side
    last = ap (λ (rs : List Row). row_at rs (length old)) add.are ∙ get_or_push old add.side nothing (length old) refl

    listed : (r : Row) → IsListed k P r → IsListed k (with_place P x a y b) r
    listed r l = record {
      first = l.first;
      one = l.one;
      second = l.second;
      other = l.other;
      placed = inl l.placed;
      order = l.order;
      known = l.known;
      pattern = l.pattern;
    }

    here : IsListed k (with_place P x a y b) add.side
    here = record {
      first = x;
      one = a;
      second = y;
      other = b;
      placed = inr (refl, refl, refl, refl);
      order = order;
      known = known;
      pattern = add.pattern;
    }

    each : (i : ℕ) → i < length new → (i < length old) ⊎ (length old ≤ i) → IsListed k (with_place P x a y b) (row_at new i)
    each i l (inl m) = subst (IsListed k (with_place P x a y b)) (sym (before i m)) (listed (row_at old i) (table.each i m))
    each i l (inr m) = let e : i ≡ length old = omega (arith, l, m, long) in subst (IsListed k (with_place P x a y b)) (sym (ap (row_at new) e ∙ last)) here

    different : (i j : ℕ) → i < j → j < length new → (row_at new i).coefficients ≡ (row_at new j).coefficients → (j < length old) ⊎ (length old ≤ j) → ⊥
    different i j l m e (inl inside) =
        table.different i j l inside
        (ap (λ (r : Row). r.coefficients) (sym (before i (omega (arith, l, inside)))) ∙ e ∙ ap (λ (r : Row). r.coefficients) (before j inside))
    different i j l m e (inr past) =
        let q : j ≡ length old = omega (arith, m, past, long) in
        let inside : i < length old = omega (arith, l, q) in
        let entry = table.each i inside in
        apart_rows k x a y b add.side add.pattern unit one_unit P (row_at old i) entry (fresh entry.first entry.one entry.second entry.other entry.placed)
        (ap (λ (r : Row). r.coefficients) (sym (before i inside)) ∙ e ∙ ap (λ (r : Row). r.coefficients) (ap (row_at new) q ∙ last))

    all : (first : ℕ) (one : ℤ) (second : ℕ) (other : ℤ) → with_place P x a y b first one second other
        → (i : ℕ) × (i < length new) × IsPattern k first one second other (row_at new i)
    all first one second other (inl p) =
        let (i, l, is) = table.all first one second other p in
        (i, omega (arith, l, long), subst (IsPattern k first one second other) (sym (before i l)) is)
    all first one second other (inr (e, f, g, h)) = (
      length old,
      omega (arith, long),
      subst (IsPattern k first one second other) (sym last) (same_place k add.side x a y b first one second other e f g h add.pattern),
    )

-- the same places
pub table_as : (k : ℕ) (P Q : ℕ → ℤ → ℕ → ℤ → Type 0) (rows : List Row)
    → ((first : ℕ) (one : ℤ) (second : ℕ) (other : ℤ) → P first one second other → Q first one second other)
    → ((first : ℕ) (one : ℤ) (second : ℕ) (other : ℤ) → Q first one second other → P first one second other) → IsTableOf k P rows → IsTableOf k Q rows
table_as k P Q rows there back table = record {
  each = λ i l. listed (row_at rows i) (table.each i l);
  different = table.different;
  all = λ first one second other q. table.all first one second other (back first one second other q);
}
  where
    listed : (r : Row) → IsListed k P r → IsListed k Q r
    listed r l = record {
      first = l.first;
      one = l.one;
      second = l.second;
      other = l.other;
      placed = there l.first l.one l.second l.other l.placed;
      order = l.order;
      known = l.known;
      pattern = l.pattern;
    }

-- the empty table
pub none_added : (k : ℕ) (rows : List Row) → rows ≡ [] → IsTableOf k (column_places k 0) rows
none_added k rows e = record {
  each = λ i l. absurd (omega (arith, l, ap length e));
  different = λ i j l m. absurd (omega (arith, m, ap length e));
  all = λ first one second other (place, l). absurd (omega (arith, l));
}

-- a place that differs in a number
fresh_other : (P : ℕ → ℤ → ℕ → ℤ → Type 0) (x : ℕ) (a : ℤ) (y : ℕ) (b a' b' : ℤ) → (b' ≡ b → ⊥)
    → ((first : ℕ) (one : ℤ) (second : ℕ) (other : ℤ) → P first one second other → AreApart x a y b first one second other)
    → (first : ℕ) (one : ℤ) (second : ℕ) (other : ℤ) → with_place P x a' y b' first one second other → AreApart x a y b first one second other
fresh_other P x a y b a' b' ne fresh first one second other (inl p) = fresh first one second other p
fresh_other P x a y b a' b' ne fresh first one second other (inr (e, f, g, h)) = turned g (λ d. ne (sym h ∙ d))

fresh_one : (P : ℕ → ℤ → ℕ → ℤ → Type 0) (x : ℕ) (a : ℤ) (y : ℕ) (b a' b' : ℤ) → x < y → (a' ≡ a → ⊥)
    → ((first : ℕ) (one : ℤ) (second : ℕ) (other : ℤ) → P first one second other → AreApart x a y b first one second other)
    → (first : ℕ) (one : ℤ) (second : ℕ) (other : ℤ) → with_place P x a' y b' first one second other → AreApart x a y b first one second other
fresh_one P x a y b a' b' l ne fresh first one second other (inl p) = fresh first one second other p
fresh_one P x a y b a' b' l ne fresh first one second other (inr (e, f, g, h)) = opposite g l e (λ d. ne (sym f ∙ d))

up_down : pos 1 ≡ negsuc 0 → ⊥
up_down e = cc

-- one column more, alone
pub column_added : (k y : ℕ) (old new : List Row) → y < k → IsTableOf k (column_places k y) old → AreBothAdded k y (pos 1) y old new
    → IsTableOf k (pair_places k y 0) new
column_added k y old new known table both =
    table_as k (with_place (with_place (column_places k y) y (pos 1) y (pos 1)) y (pos 1) y (negsuc 0)) (pair_places k y 0) new there back
    (added k (with_place (column_places k y) y (pos 1) y (pos 1)) y (pos 1) y (negsuc 0) both.middle new (omega arith) known (inr refl) (λ l. inl refl)
    (added k (column_places k y) y (pos 1) y (pos 1) old both.middle (omega arith) known (inl refl) (λ l. inl refl) table
    (λ first one second other p. fresh (pos 1) first one second other p) both.up)
    (fresh_other (column_places k y) y (pos 1) y (negsuc 0) (pos 1) (pos 1) up_down (fresh (negsuc 0))) both.down)
  where
    fresh : (b : ℤ) (first : ℕ) (one : ℤ) (second : ℕ) (other : ℤ) → column_places k y first one second other → AreApart y (pos 1) y b first one second other
    fresh b first one second other (place, l) = lower l

    at_column : (first : ℕ) (one : ℤ) (second : ℕ) (other b : ℤ) → IsUnit b → (first ≡ y) × (one ≡ pos 1) × (second ≡ y) × (other ≡ b)
        → pair_places k y 0 first one second other
    at_column first one second other b unit (e, f, g, h) = ((subst IsUnit (sym h) unit, inl (e ∙ sym g, f)), inr (g, inl e))

    there : (first : ℕ) (one : ℤ) (second : ℕ) (other : ℤ)
        → with_place (with_place (column_places k y) y (pos 1) y (pos 1)) y (pos 1) y (negsuc 0) first one second other
        → pair_places k y 0 first one second other
    there first one second other (inl (inl (place, l))) = (place, inl l)
    there first one second other (inl (inr at)) = at_column first one second other (pos 1) (inl refl) at
    there first one second other (inr at) = at_column first one second other (negsuc 0) (inr refl) at

    back_alone : (first : ℕ) (one : ℤ) (second : ℕ) (other : ℤ) → IsPlace k first one second other → second ≡ y → first ≡ y
        → with_place (with_place (column_places k y) y (pos 1) y (pos 1)) y (pos 1) y (negsuc 0) first one second other
    back_alone first one second other (inl u, inl (e, f)) g h = inl (inr (h, f, g, u))
    back_alone first one second other (inr u, inl (e, f)) g h = inr (h, f, g, u)
    back_alone first one second other (u, inr (l, few, unit)) g h = absurd (omega (arith, l, g, h))

    back : (first : ℕ) (one : ℤ) (second : ℕ) (other : ℤ) → pair_places k y 0 first one second other
        → with_place (with_place (column_places k y) y (pos 1) y (pos 1)) y (pos 1) y (negsuc 0) first one second other
    back first one second other (place, inl l) = inl (inl (place, l))
    back first one second other (place, inr (e, inl f)) = back_alone first one second other place e f
    back first one second other (place, inr (e, inr l)) = absurd (omega (arith, l))

-- one pair more, in four left sides
module _ (k x y : ℕ) (less : x < y) (known : y < k) (few : k ≤ 22) where
  abbrev P0 : ℕ → ℤ → ℕ → ℤ → Type 0
  P0 = pair_places k y x

  abbrev P1 : ℕ → ℤ → ℕ → ℤ → Type 0
  P1 = with_place P0 x (pos 1) y (pos 1)

  abbrev P2 : ℕ → ℤ → ℕ → ℤ → Type 0
  P2 = with_place P1 x (pos 1) y (negsuc 0)

  abbrev P3 : ℕ → ℤ → ℕ → ℤ → Type 0
  P3 = with_place P2 x (negsuc 0) y (pos 1)

  abbrev P4 : ℕ → ℤ → ℕ → ℤ → Type 0
  P4 = with_place P3 x (negsuc 0) y (negsuc 0)

  fresh0 : (a b : ℤ) (first : ℕ) (one : ℤ) (second : ℕ) (other : ℤ) → P0 first one second other → AreApart x a y b first one second other
  fresh0 a b first one second other (place, inl l) = lower l
  fresh0 a b first one second other (place, inr (e, inl f)) = alone e less f
  fresh0 a b first one second other (place, inr (e, inr l)) = earlier e less l

  at_pair : (first : ℕ) (one : ℤ) (second : ℕ) (other a b : ℤ) → IsUnit a → IsUnit b → (first ≡ x) × (one ≡ a) × (second ≡ y) × (other ≡ b)
      → pair_places k y (x + 1) first one second other
  at_pair first one second other a b ua ub (e, f, g, h) = (
    (subst IsUnit (sym h) ub, inr (omega (arith, less, e, g), few, subst IsUnit (sym f) ua)),
    inr (g, inr (omega (arith, e))),
  )

  pair_there : (first : ℕ) (one : ℤ) (second : ℕ) (other : ℤ) → P4 first one second other → pair_places k y (x + 1) first one second other
  pair_there first one second other (inl (inl (inl (inl (place, inl l))))) = (place, inl l)
  pair_there first one second other (inl (inl (inl (inl (place, inr (e, inl f)))))) = (place, inr (e, inl f))
  pair_there first one second other (inl (inl (inl (inl (place, inr (e, inr l)))))) = (place, inr (e, inr (omega (arith, l))))
  pair_there first one second other (inl (inl (inl (inr at)))) = at_pair first one second other (pos 1) (pos 1) (inl refl) (inl refl) at
  pair_there first one second other (inl (inl (inr at))) = at_pair first one second other (pos 1) (negsuc 0) (inl refl) (inr refl) at
  pair_there first one second other (inl (inr at)) = at_pair first one second other (negsuc 0) (pos 1) (inr refl) (inl refl) at
  pair_there first one second other (inr at) = at_pair first one second other (negsuc 0) (negsuc 0) (inr refl) (inr refl) at

  back_pair : (first : ℕ) (one : ℤ) (second : ℕ) (other : ℤ) → IsPlace k first one second other → second ≡ y → first ≡ x → P4 first one second other
  back_pair first one second other (u, inl (e, f)) g h = absurd (omega (arith, less, e, g, h))
  back_pair first one second other (inl u, inr (l, m, inl v)) g h = inl (inl (inl (inr (h, v, g, u))))
  back_pair first one second other (inr u, inr (l, m, inl v)) g h = inl (inl (inr (h, v, g, u)))
  back_pair first one second other (inl u, inr (l, m, inr v)) g h = inl (inr (h, v, g, u))
  back_pair first one second other (inr u, inr (l, m, inr v)) g h = inr (h, v, g, u)

  pair_back : (first : ℕ) (one : ℤ) (second : ℕ) (other : ℤ) → pair_places k y (x + 1) first one second other → P4 first one second other
  pair_back first one second other (place, inl l) = inl (inl (inl (inl (place, inl l))))
  pair_back first one second other (place, inr (e, inl f)) = inl (inl (inl (inl (place, inr (e, inl f)))))
  pair_back first one second other (place, inr (e, inr l)) = go (cases_lt first x)
    where
      go : (first < x) ⊎ (x ≤ first) → P4 first one second other
      go (inl m) = inl (inl (inl (inl (place, inr (e, inr m)))))
      go (inr m) = back_pair first one second other place e (omega (arith, l, m))

  pub pair_added : (old middle new : List Row) → IsTableOf k (pair_places k y x) old → AreBothAdded k x (pos 1) y old middle
      → AreBothAdded k x (negsuc 0) y middle new
      → IsTableOf k (pair_places k y (x + 1)) new
  pair_added old middle new table up down =
      let order : x ≤ y = omega (arith, less) in
      let t1 = added k P0 x (pos 1) y (pos 1) old up.middle order known (inl refl) (λ l. inl refl) table (fresh0 (pos 1) (pos 1)) up.up in
      let t2 = added k P1 x (pos 1) y (negsuc 0) up.middle middle order known (inr refl) (λ l. inl refl) t1
      (fresh_other P0 x (pos 1) y (negsuc 0) (pos 1) (pos 1) up_down (fresh0 (pos 1) (negsuc 0))) up.down in
      let t3 = added k P2 x (negsuc 0) y (pos 1) middle down.middle order known (inl refl) (λ l. inr refl) t2
      (fresh_one P1 x (negsuc 0) y (pos 1) (pos 1) (negsuc 0) less up_down
      (fresh_one P0 x (negsuc 0) y (pos 1) (pos 1) (pos 1) less up_down (fresh0 (negsuc 0) (pos 1)))) down.up in
      let t4 = added k P3 x (negsuc 0) y (negsuc 0) down.middle new order known (inr refl) (λ l. inr refl) t3
      (fresh_other P2 x (negsuc 0) y (negsuc 0) (negsuc 0) (pos 1) up_down
      (fresh_one P1 x (negsuc 0) y (negsuc 0) (pos 1) (negsuc 0) less up_down
      (fresh_one P0 x (negsuc 0) y (negsuc 0) (pos 1) (pos 1) less up_down (fresh0 (negsuc 0) (negsuc 0))))) down.down in
      table_as k P4 (pair_places k y (x + 1)) new pair_there pair_back t4

pub both_long : (k x : ℕ) (a : ℤ) (y : ℕ) (old new : List Row) → AreBothAdded k x a y old new → length new ≡ length old + 2
both_long k x a y old new both =
    let up = both.up in
    let down = both.down in
    omega (arith, ap length up.are, length_push old up.side, ap length down.are, length_push both.middle down.side)

-- a column is done
pub column_done : (k y x : ℕ) (rows : List Row) → (22 < k) ⊎ (x ≡ y) → IsTableOf k (pair_places k y x) rows → IsTableOf k (column_places k (y + 1)) rows
column_done k y x rows end table = table_as k (pair_places k y x) (column_places k (y + 1)) rows there back table
  where
    there : (first : ℕ) (one : ℤ) (second : ℕ) (other : ℤ) → pair_places k y x first one second other → column_places k (y + 1) first one second other
    there first one second other (place, inl l) = (place, omega (arith, l))
    there first one second other (place, inr (e, at)) = (place, omega (arith, e))

    in_pair : (first second : ℕ) → first < second → second ≡ y → k ≤ 22 → (22 < k) ⊎ (x ≡ y) → first < x
    in_pair first second l e few (inl many) = absurd (omega (arith, few, many))
    in_pair first second l e few (inr d) = omega (arith, l, e, d)

    at_end : (first : ℕ) (one : ℤ) (second : ℕ) (other : ℤ) → IsPlace k first one second other → second ≡ y → (first ≡ y) ⊎ (first < x)
    at_end first one second other (u, inl (e, f)) g = inl (e ∙ g)
    at_end first one second other (u, inr (l, few, v)) g = inr (in_pair first second l g few end)

    back : (first : ℕ) (one : ℤ) (second : ℕ) (other : ℤ) → column_places k (y + 1) first one second other → pair_places k y x first one second other
    back first one second other (place, l) = go (cases_lt second y)
      where
        go : (second < y) ⊎ (y ≤ second) → pair_places k y x first one second other
        go (inl m) = (place, inl m)
        go (inr m) = let e : second ≡ y = omega (arith, l, m) in (place, inr (e, at_end first one second other place e))

-- the whole table
module _ (s : System) (k : ℕ) (same : s.memories ≡ k) (rows : List Row) (table : IsTableOf k (column_places k k) rows) where
  side_shape : (r : Row) (first : ℕ) (one : ℤ) (second : ℕ) (other : ℤ) → first ≤ second → second < k → IsPattern k first one second other r
      → column_places k k first one second other → HasOne s r ⊎ HasTwo s r
  side_shape r first one second other order known p ((u, inl (e, f)), l) = inl (record {
    column = second;
    there = omega (arith, known, same);
    one = subst IsUnit (sym p.last) u;
    others = λ n ne. p.others n (λ d. ne (d ∙ e)) ne;
  })
  side_shape r first one second other order known p ((u, inr (l, few, v)), m) = inr (record {
    few = omega (arith, few, same);
    first = first;
    second = second;
    different = l;
    there = omega (arith, known, same);
    one = subst IsUnit (sym (p.start (λ d. omega (arith, l, d)))) v;
    other = subst IsUnit (sym p.last) u;
    others = p.others;
  })

  side_of : (r : Row) → IsListed k (column_places k k) r → IsSide s r
  side_of r l =
      let p = l.pattern in
      record { size = p.size ∙ sym same; shape = side_shape r l.first l.one l.second l.other l.order l.known p l.placed; bound = p.bound }

  same_sides : (q r : Row) → length q.coefficients ≡ k → length r.coefficients ≡ s.memories → ((n : ℕ) → coefficient n q ≡ coefficient n r)
      → q.coefficients ≡ r.coefficients
  same_sides q r e f at = ext_get_or (pos 0) q.coefficients r.coefficients (e ∙ sym same ∙ sym f) (λ n l. at n)

  find : (r : Row) → length r.coefficients ≡ s.memories → HasOne s r ⊎ HasTwo s r
      → (i : ℕ) × (i < length rows) × ((row_at rows i).coefficients ≡ r.coefficients)
  find r size (inl one) =
      let known : one.column < k = let t = one.there in omega (arith, t, same) in
      let (i, l, p) = table.all one.column (pos 1) one.column (coefficient one.column r) ((one.one, inl (refl, refl)), known) in
      (i, l, same_sides (row_at rows i) r p.size size (λ n. at n (row_at rows i) p (cases_eq n one.column)))
    where
      at : (n : ℕ) (q : Row) → IsPattern k one.column (pos 1) one.column (coefficient one.column r) q → (n ≡ one.column) ⊎ (n ≢ one.column)
          → coefficient n q ≡ coefficient n r
      at n q p (inl e) = ap (λ (j : ℕ). coefficient j q) e ∙ p.last ∙ ap (λ (j : ℕ). coefficient j r) (sym e)
      at n q p (inr ne) = p.others n ne ne ∙ sym (one.others n ne)
  find r size (inr two) =
      let known : two.second < k = let t = two.there in omega (arith, t, same) in
      let few : k ≤ 22 = let f = two.few in omega (arith, f, same) in
      let (i, l, p) = table.all two.first (coefficient two.first r) two.second (coefficient two.second r)
      ((two.other, inr (two.different, few, two.one)), known) in
      (i, l, same_sides (row_at rows i) r p.size size (λ n. at n (row_at rows i) p (cases_eq n two.first) (cases_eq n two.second)))
    where
      at : (n : ℕ) (q : Row) → IsPattern k two.first (coefficient two.first r) two.second (coefficient two.second r) q → (n ≡ two.first) ⊎ (n ≢ two.first)
          → (n ≡ two.second) ⊎ (n ≢ two.second) → coefficient n q ≡ coefficient n r
      at n q p first (inl e) = ap (λ (j : ℕ). coefficient j q) e ∙ p.last ∙ ap (λ (j : ℕ). coefficient j r) (sym e)
      at n q p (inl e) (inr me) =
          let d = two.different in
          ap (λ (j : ℕ). coefficient j q) e ∙ p.start (λ z. omega (arith, d, z)) ∙ ap (λ (j : ℕ). coefficient j r) (sym e)
      at n q p (inr ne) (inr me) = p.others n ne me ∙ sym (two.others n ne me)

  pub sides_are : k ≤ 64 → (k ≤ 22 → length rows ≡ 2 * (k * k)) → (22 < k → length rows ≡ 2 * k) → AreSides s rows
  sides_are few pairs singles = record {
    each = λ i l. side_of (row_at rows i) (table.each i l);
    different = table.different;
    all = find;
    few = go (cases_lt 22 k);
  }
    where
      go : (22 < k) ⊎ (k ≤ 22) → length rows ≤ 1024
      go (inl m) = omega (arith, singles m, few)
      go (inr m) = let squares : k * k ≤ 22 * 22 = mul-le-mul m m in omega (arith, pairs m, squares)
